use Rattle.std.proofs.Common.{◌≤◌, ◌∙◌, IsTrue, ap, length, subst, sym}
use Rattle.std.proofs.lemmas.Option.{none-some, same_Some}
use Rattle.mi_base.specs.Prefixes.{all_below}
use Rattle.mi_key.specs.declared.ranges.Interval.{Interval}
use Rattle.mi_solo.specs.declared.rows.SplitRow.{SplitRow}
use Rattle.mi_solo.specs.Seeking.{ReadsOn}
use Rattle.mi_solo.specs.States.{split_of}
use Rattle.mi_solo.specs.WorkRows.{work_of}
use Rattle.mi_solo.proofs.GatherRows.{gathers_on}
use Rattle.mi_solo.proofs.gather_rows.gather_here.Goals as goal

pub unreachable-requires : goal.unreachable-requires
unreachable-requires c = let h = c.requires.work in none-some h.work (sym c.in_default.is ∙ h.is)

pub cell_keys-keys-requires-clause-depth : goal.cell_keys-keys-requires-clause-depth
cell_keys-keys-requires-clause-depth c = let h = c.requires.work in subst (λ (w : SplitRow). length w.leaf ≤ c.args.settings.now.levels) (same_Some h.work c.in-Some.work (sym h.is ∙ c.in-Some.is)) h.depth

pub cell_keys-keys-requires-clause-pivots : goal.cell_keys-keys-requires-clause-pivots
cell_keys-keys-requires-clause-pivots c = let h = c.requires.work in subst (λ (w : SplitRow). IsTrue (all_below (length c.args.settings.now.pivots) w.leaf)) (same_Some h.work c.in-Some.work (sym h.is ∙ c.in-Some.is)) h.pivots

pub returns-in-Err : goal.returns-in-Err
returns-in-Err c = (c.gather.ensures.rest, c.in-Err.ensures.err)

pub returns-in-Ok : goal.returns-in-Ok
returns-in-Ok c = (
  c.gather.ensures.rest,
  record {
    work = work_of c.in-Some.work;
    is = ap split_of c.in-Some.is;
    reads = subst (λ (k : Interval). ReadsOn c.args.node.now k.to c.next_page.result) c.cell_keys-keys.ensures c.next_page.ensures;
    more = gathers_on c.args.settings.now c.args.node.now (split_of c.args.row.now.split) (split_of c.gather.new.self.split) (work_of c.in-Some.work) c.cell_keys-keys.result c.end_key-end.result
        (ap split_of c.in-Some.is) c.cell_keys-keys.ensures c.end_key-end.ensures c.in-Ok.ensures.ok;
  },
)
