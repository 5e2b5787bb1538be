-- What a call that chooses pivots reads, says and sends.
use Rattle.std.proofs.Common.{◌≡◌, ℕ, ◌≤◌, ℤ, List, [], ◌∷◌, ◌++◌, length, map, get_or, take, drop, Bool, true, false, cond, Option, None, Some, Result, Ok, Err, IsTrue, refl, sym, ap, ◌∙◌, subst, arith, inl, inr, ◌⊎◌}
use Rattle.std.specs.Prelude.{bytes_eq, codes, option_map, slice_get}
use Rattle.std.specs.List.{AllByRecursion, flat_map}
use Rattle.mi_base.specs.declared.limits.TheConstants.{MAX_PIVOTS}
use Rattle.mi_base.specs.declared.records.Op.{Op}
use Rattle.mi_base.specs.declared.records.Op.TheVariants.{Insert, Delete, Range, Nearest}
use Rattle.mi_base.specs.Scripts.{IsOpOver, IsScriptOver}
use Rattle.mi_base.specs.Space.{MetricSpace}
use Rattle.mi_choose.specs.Farthest.{objects_at}
use Rattle.mi_input.specs.declared.faults.Reason.{Reason}
use Rattle.mi_input.specs.Numbers.{count_in}
use Rattle.mi_outside.specs.States.{FilesState, SinkState}
use Rattle.mi_call.specs.declared.refusals.Stop.{Stop}
use Rattle.mi_call.specs.declared.refusals.Stop.TheVariants.{Refused, Unread, Memory}
use Rattle.mi_call.specs.declared.statuses.Status.{Status}
use Rattle.mi_call.specs.declared.statuses.Status.TheVariants as status
use Rattle.mi_call.specs.Statuses.{status_number}
use Rattle.mi_call.specs.Inputs.{Inputs, Texts, inputs_of}
use Rattle.mi_call.specs.Loading.{LoadsAll, stop_line, stop_status}
use Rattle.mi_call.specs.Calls.{Answered, Answers, Ends, IsWant, usage_line}
use Rattle.mi_call.specs.Choosing.{ChooseCompletes, ChooseSays, ChooseSaysOf, ChooseWords, IsChoiceText, Proposed, ServesChoose, choose_words_in, objects_of, only_script, pivot_line, words_with_count}
use Rattle.std.proofs.lemmas.Option.{none-some, same_Some}
use Rattle.mi_call.proofs.CallLemmas.{told_inputs, word_at}

-- the lines of the objects at some places
pub lines_at : (objects : List (List ℤ)) (places : List ℕ) → flat_map pivot_line (objects_at objects places) ≡ flat_map (λ place. pivot_line (get_or objects place [])) places
lines_at objects [] = refl
lines_at objects (p ∷ places) = ap (λ text. pivot_line (get_or objects p []) ++ text) (lines_at objects places)

-- the objects of a script fit its metric, and are no more than its operations
pub objects_fit : (m : MetricSpace) (ops : List Op) → AllByRecursion (IsOpOver m) ops → AllByRecursion (λ v. IsTrue (m.fits v)) (objects_of ops)
objects_fit m [] each = tt
objects_fit m (Insert id vector ∷ ops) each = (each.0.1, objects_fit m ops each.1)
objects_fit m (Delete id ∷ ops) each = objects_fit m ops each.1
objects_fit m (Range radius query ∷ ops) each = objects_fit m ops each.1
objects_fit m (Nearest count query ∷ ops) each = objects_fit m ops each.1

pub objects_few : (ops : List Op) → length (objects_of ops) ≤ length ops
objects_few [] = omega arith
objects_few (Insert id vector ∷ ops) = omega (arith, objects_few ops)
objects_few (Delete id ∷ ops) = omega (arith, objects_few ops)
objects_few (Range radius query ∷ ops) = omega (arith, objects_few ops)
objects_few (Nearest count query ∷ ops) = omega (arith, objects_few ops)

serves_stop : (words : ChooseWords) (f0 f1 : FilesState) (s : Stop) → LoadsAll words.names f0 f1 (Err s) → ServesChoose words f0 f1 (stop_status s) (stop_line s)
serves_stop words f0 f1 (Refused refusal) l =
    record { texts = l.texts; told = l.told; says = inr (l.finds.1, inl (record { refusal = refusal; first = l.finds.0; said_is = refl; text_is = refl })) }
serves_stop words f0 f1 (Unread file) l =
    record { texts = l.texts; told = l.told; says = inl (record { file = file; good = l.finds.0; counted = l.finds.1; said_is = refl; text_is = refl }) }
serves_stop words f0 f1 Memory l = record { texts = l.texts; told = l.told; says = inr (l.finds, inr (inr (record { said_is = refl; text_is = refl }))) }

serves_choice : (words : ChooseWords) (f0 f1 : FilesState) (inputs : Inputs) (said : Status) (text : List ℕ) → LoadsAll words.names f0 f1 (Ok inputs)
    → ((said ≡ status.Done) × IsChoiceText inputs words.count text) ⊎ IsWant said text → ServesChoose words f0 f1 said text
serves_choice words f0 f1 inputs said text l (inl chosen) =
    record { texts = l.texts; told = l.told; says = inr (l.finds.1, inr (inl (record { inputs = inputs; read = l.finds.0; chosen = chosen.1; said_is = chosen.0 }))) }
serves_choice words f0 f1 inputs said text l (inr want) = record { texts = l.texts; told = l.told; says = inr (l.finds.1, inr (inr want)) }

-- the words don't have the form
pub choice_usage : (words : Option ChooseWords) (files : FilesState) (old new : SinkState) (ended : Status) → None ≡ option_map (λ w. w.count) words
    → Ends status.Usage usage_line old new ended → Answers (ChooseSays words) files files old new ended
choice_usage None files old new ended none ends = record { said = status.Usage; text = usage_line; says = (refl, refl, refl); ends = ends; grows = omega arith }
choice_usage (Some words) files old new ended none ends = cc

-- there is nothing to choose from
pub choice_stop : (words : Option ChooseWords) (w : ChooseWords) (f0 f1 : FilesState) (old new : SinkState) (ended : Status) (s : Stop) → words ≡ Some w
    → LoadsAll w.names f0 f1 (Err s) → Ends (stop_status s) (stop_line s) old new ended → Answers (ChooseSays words) f0 f1 old new ended
choice_stop words w f0 f1 old new ended s is l ends =
    subst (λ o. Answers (ChooseSays o) f0 f1 old new ended) (sym is)
    (record { said = stop_status s; text = stop_line s; says = serves_stop w f0 f1 s l; ends = ends; grows = l.grows })

-- it was chosen
pub choice_told : (words : Option ChooseWords) (w : ChooseWords) (f0 f1 : FilesState) (old new : SinkState) (ended : Status) (inputs : Inputs) → words ≡ Some w
    → LoadsAll w.names f0 f1 (Ok inputs) → Proposed inputs w.count old new ended → Answers (ChooseSays words) f0 f1 old new ended
choice_told words w f0 f1 old new ended inputs is l p =
    subst (λ o. Answers (ChooseSays o) f0 f1 old new ended) (sym is)
    (record { said = p.said; text = p.text; says = serves_choice w f0 f1 inputs p.said p.text l p.says; ends = p.ends; grows = l.grows })

-- the words of the form, with these names
abbrev choice_of_words : List ℕ → List (List ℕ) → ℕ → ChooseWords
choice_of_words settings scripts count = record { names = record { settings = settings; schedule = None; scripts = scripts }; count = count }

with_count : (settings script : List ℕ) (count : ℕ) (r : Result ℕ Reason) → Some count ≡ option_map (λ w. w.count) (words_with_count settings script r)
    → words_with_count settings script r ≡ Some (choice_of_words settings (script ∷ []) count)
with_count settings script count (Ok n) h = let same : count ≡ n = cc in ap (λ k. Some (choice_of_words settings (script ∷ []) k)) (sym same)
with_count settings script count (Err why) h = cc

served_words : (words : List (List ℕ)) (count : ℕ) → Some count ≡ option_map (λ w. w.count) (choose_words_in words)
    → choose_words_in words ≡ Some (choice_of_words (get_or words 1 []) (take 1 (drop 2 words)) count)
served_words [] count h = cc
served_words (a ∷ []) count h = cc
served_words (a ∷ b ∷ []) count h = cc
served_words (a ∷ b ∷ d ∷ []) count h = cc
served_words (a ∷ b ∷ d ∷ e ∷ []) count h =
    let some : Option ChooseWords = words_with_count b d (count_in 1 MAX_PIVOTS e) in
    let P : Bool → Type 0 = λ t. Some count ≡ option_map (λ w. w.count) (cond t some None) → cond t some None ≡ Some (choice_of_words b (d ∷ []) count) in
    (elim (bytes_eq a (codes "choose")) as P [ true ↦ with_count b d count (count_in 1 MAX_PIVOTS e) | false ↦ λ k. cc ]) h
served_words (a ∷ b ∷ d ∷ e ∷ f ∷ words) count h = cc

-- the third of four words
third_alone : {W : Type 0} (f : W → List ℕ) (words : List W) → length words ≡ 4 → take 1 (drop 2 (map f words)) ≡ map f (take 1 (drop 2 words))
third_alone f [] four = refl
third_alone f (a ∷ []) four = refl
third_alone f (a ∷ b ∷ []) four = refl
third_alone f (a ∷ b ∷ d ∷ words) four = refl

pub choice_words : {W : Type 0} (f : W → List ℕ) (words : List W) (a : W) (settings : List ℕ) (count : ℕ) → Some count ≡ option_map (λ w. w.count) (choose_words_in (map f words)) → length words ≡ 4
    → a ≡ get_or words 1 a → settings ≡ f a → choose_words_in (map f words) ≡ Some (choice_of_words settings (map f (take 1 (drop 2 words))) count)
choice_words f words a settings count served four first named =
    served_words (map f words) count served
    ∙ ap (λ w. Some (choice_of_words w (take 1 (drop 2 (map f words))) count)) (word_at f words 1 a (omega arith) first ∙ sym named)
    ∙ ap (λ ws. Some (choice_of_words settings ws count)) (third_alone f words four)

-- the one script of inputs, of which there is one at least
pub first_script_is : (scripts : List (List Op)) (script : List Op) → slice_get scripts 0 ≡ Some script → script ≡ only_script scripts
first_script_is [] script e = absurd (none-some script e)
first_script_is (ops ∷ scripts) script e = sym (same_Some ops script e)

pub only_over : (m : MetricSpace) (scripts : List (List Op)) (script : List Op) → slice_get scripts 0 ≡ Some script → AllByRecursion (IsScriptOver m) scripts → IsScriptOver m script
only_over m [] script e all = absurd (none-some script e)
only_over m (ops ∷ scripts) script e all = subst (IsScriptOver m) (same_Some ops script e) all.0

abbrev ToldOrWanted : ℕ → Type 0
ToldOrWanted number = (number ≡ status_number status.Done) ⊎ (number ≡ status_number status.NoMemory)

said_when_good : (texts : Texts) (inputs : Inputs) (count : ℕ) (said : Status) (text : List ℕ) → inputs_of texts ≡ Ok inputs → ChooseSaysOf texts count said text → ToldOrWanted (status_number said)
said_when_good texts inputs count said text good (inl refused) = let both : Ok inputs ≡ Err refused.refusal = sym good ∙ refused.first in cc
said_when_good texts inputs count said text good (inr (inl chosen)) = inl (ap status_number chosen.said_is)
said_when_good texts inputs count said text good (inr (inr want)) = inr (ap status_number want.said_is)

-- of good inputs the choice is told, unless memory is wanted or a fault is counted
pub choice_completes : (words : Option ChooseWords) (f0 f1 : FilesState) (old new : SinkState) (number : ℕ) → Answered (ChooseSays words) f0 f1 old new number → ChooseCompletes words f0 f1 old new number
choice_completes None f0 f1 old new number a = tt
choice_completes (Some words) f0 f1 old new number a = λ texts inputs tells good still unfailed.
    let says = a.answers.says in
    let good_texts = told_inputs f0 words.names texts says.texts tells says.told ∙ good in
    let said : ToldOrWanted (status_number a.answers.said) = elim says.says [
      | inl unread ↦ absurd (still unread.counted)
      | inr others ↦ said_when_good says.texts inputs words.count a.answers.said a.answers.text good_texts others.1
    ] in
    elim a.answers.ends.sent [
      | inl sent ↦ subst ToldOrWanted (sym (a.number_is ∙ ap status_number sent.0)) said
      | inr failed ↦ absurd (unfailed failed.1.1)
    ]
