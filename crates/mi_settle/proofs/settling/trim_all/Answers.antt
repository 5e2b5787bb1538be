use Rattle.std.proofs.Common.{ℕ, ◌<◌, Option, subst, sym}
use Rattle.mi_solo.specs.Sections.{Trims}
use Rattle.mi_world.specs.declared.answers.Visit.TheVariants.{Read}
use Rattle.mi_settle.specs.Entries.{pages_from}
use Rattle.mi_settle.proofs.SettlingLemmas.{Trimming, none_left, trimmed_all, trimming_falls, trimming_first, trimming_on}
use Rattle.mi_settle.proofs.settling.trim_all.Goals as goal

pub loop-next-init : goal.loop-next-init
loop-next-init c = record { trims = trimming_first c.args.actor c.args.solo.now.state c.requires.may c.requires.kept c.requires.rest c.requires.floor }

pub loop-next-smaller : goal.loop-next-smaller
loop-next-smaller c =
    let l = c.loop-next in
    let m = c.turn_to.new.self in
    let way = subst (λ (o : Option ℕ). Trimming c.args.actor c.args.solo.now.state o l.solo.state) c.in-Some.is l.invariant.trims in
    let trims = subst (λ (n : ℕ). Trims m.state n c.in-Some.page (Read c.in-Read.right) c.trim.new.self.state) c.turn_to.ensures.turn c.in-Read.ensures.event in
    subst (λ (o : Option ℕ). pages_from c.in-Read.right c.trim.new.self.state < pages_from o l.solo.state) (sym c.in-Some.is)
    (trimming_falls c.args.actor c.args.solo.now.state l.solo.state c.in-Some.page way m.state c.turn_to.ensures.seen c.trim.new.self.state c.in-Read.right trims)

pub loop-next-preserved : goal.loop-next-preserved
loop-next-preserved c =
    let l = c.loop-next in
    let m = c.turn_to.new.self in
    let way = subst (λ (o : Option ℕ). Trimming c.args.actor c.args.solo.now.state o l.solo.state) c.in-Some.is l.invariant.trims in
    let trims = subst (λ (n : ℕ). Trims m.state n c.in-Some.page (Read c.in-Read.right) c.trim.new.self.state) c.turn_to.ensures.turn c.in-Read.ensures.event in
    record { trims = trimming_on c.args.actor c.args.solo.now.state l.solo.state c.in-Some.page way m.state c.turn_to.ensures.seen c.trim.new.self.state c.in-Read.right trims }

pub returns : goal.returns
returns c =
    let l = c.loop-next in
    trimmed_all c.args.actor c.args.solo.now.state l.solo.state (subst (λ (o : Option ℕ). Trimming c.args.actor c.args.solo.now.state o l.solo.state) (none_left l.next c.in_default.not-Some) l.invariant.trims)
