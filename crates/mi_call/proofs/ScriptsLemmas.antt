-- Scripts read one after another.
use Rattle.std.proofs.Common.{◌≡◌, ℕ, zero, suc, ◌+◌, ◌<◌, List, [], ◌∷◌, ◌++◌, length, map, take, drop, get_or, Result, Ok, Err, refl, sym, ap, ◌∙◌, subst, arith, length-append}
use Rattle.std.specs.Prelude.{IsOk}
use Rattle.std.specs.List.{AllByRecursion}
use Rattle.std.proofs.Math.Seq.{take-append_seam}
use Rattle.mi_base.specs.declared.records.Op.{Op}
use Rattle.mi_base.specs.Configuration.{Configuration, metric_space}
use Rattle.mi_base.specs.Scripts.{IsScriptOver}
use Rattle.mi_tree.proofs.ListLemmas.{all_joined}
use Rattle.mi_input.specs.Faults.{◌>>=◌}
use Rattle.mi_input.specs.Scripts.{script_in}
use Rattle.mi_input.proofs.CaseLemmas.{bind_ok, ok_same}
use Rattle.mi_outside.specs.Outside.{KeepsContents, Rose}
use Rattle.mi_outside.specs.States.{FilesState}
use Rattle.mi_call.specs.declared.refusals.Refusal.{Refusal}
use Rattle.mi_call.specs.declared.refusals.Stop.{Stop}
use Rattle.mi_call.specs.declared.refusals.Stop.TheVariants.{Refused, Unread, Memory}
use Rattle.mi_call.specs.Inputs.{AreScriptTexts, EachHas, IsTextOf, in_file, scripts_from}
use Rattle.mi_call.specs.Loading.{Finds, FindsScripts, Loads, LoadsScripts}
use Rattle.mi_call.proofs.LoadingLemmas.{LoadsAt, loads_at, some_text, some_text_is}

-- names and texts

pub texts_as_many : (its : List ℕ → List ℕ → Type 0) (names texts : List (List ℕ)) → EachHas its names texts → length texts ≡ length names
texts_as_many its [] [] h = refl
texts_as_many its (name ∷ names) (text ∷ texts) h = ap suc (texts_as_many its names texts h.1)
texts_as_many its (name ∷ names) [] h = absurd h
texts_as_many its [] (text ∷ texts) h = absurd h

each_joined : (its : List ℕ → List ℕ → Type 0) (names texts others more : List (List ℕ)) → EachHas its names texts → EachHas its others more → EachHas its (names ++ others) (texts ++ more)
each_joined its [] [] others more h k = k
each_joined its (name ∷ names) (text ∷ texts) others more h k = (h.0, each_joined its names texts others more h.1 k)
each_joined its (name ∷ names) [] others more h k = absurd h
each_joined its [] (text ∷ texts) others more h k = absurd h

-- files that hold what others hold have their texts
pub texts_then : (first now : FilesState) (names texts : List (List ℕ)) → KeepsContents first now → AreScriptTexts now names texts → AreScriptTexts first names texts
texts_then first now [] [] same h = tt
texts_then first now (name ∷ names) (text ∷ texts) same h = (subst (λ told. IsTextOf told text) (same name) h.0, texts_then first now names texts same h.1)
texts_then first now (name ∷ names) [] same h = absurd h
texts_then first now [] (text ∷ texts) same h = absurd h

-- texts that files may have
abbrev pub some_texts : FilesState → List (List ℕ) → List (List ℕ)
some_texts files names = map (λ name. some_text (files.content name)) names

pub some_texts_are : (files : FilesState) (names : List (List ℕ)) → AreScriptTexts files names (some_texts files names)
some_texts_are files [] = tt
some_texts_are files (name ∷ names) = (some_text_is (files.content name), some_texts_are files names)

-- scripts

pub scripts_as_many : (c : Configuration) (file : ℕ) (texts : List (List ℕ)) (scripts : List (List Op)) → scripts_from c file texts ≡ Ok scripts → length scripts ≡ length texts
scripts_as_many c file [] scripts h = sym (ap length (ok_same {X = List (List Op)} {E = Refusal} [] scripts h))
scripts_as_many c file (text ∷ texts) scripts h =
    let (script, first, more) = bind_ok (in_file file (script_in c) text) (λ script. scripts_from c (file + 1) texts >>= λ scripts. Ok (script ∷ scripts)) scripts h in
    let (rest, read, e) = bind_ok (scripts_from c (file + 1) texts) (λ (scripts : List (List Op)). Ok (script ∷ scripts)) scripts more in
    sym (ap length (ok_same {E = Refusal} (script ∷ rest) scripts e)) ∙ ap suc (scripts_as_many c (file + 1) texts rest read)

unit : (read : Result (List (List Op)) Refusal) → read ≡ (read >>= λ more. Ok more)
unit (Ok more) = refl
unit (Err refusal) = refl

front : (script : List Op) (rest : List (List Op)) (read : Result (List (List Op)) Refusal)
    → ((read >>= λ more. Ok (rest ++ more)) >>= λ scripts. Ok (script ∷ scripts)) ≡ (read >>= λ more. Ok (script ∷ (rest ++ more)))
front script rest (Ok more) = refl
front script rest (Err refusal) = refl

-- what follows texts that are scripts is read behind them
behind : (c : Configuration) (file : ℕ) (texts others : List (List ℕ)) (scripts : List (List Op)) → scripts_from c file texts ≡ Ok scripts
    → scripts_from c file (texts ++ others) ≡ (scripts_from c (file + length texts) others >>= λ more. Ok (scripts ++ more))
behind c file [] others scripts h =
    let e = ok_same {X = List (List Op)} {E = Refusal} [] scripts h in
    let here : file ≡ file + 0 = omega arith in
    subst (λ n. scripts_from c file others ≡ (scripts_from c n others >>= λ more. Ok (scripts ++ more))) here
    (subst (λ (front : List (List Op)). scripts_from c file others ≡ (scripts_from c file others >>= λ more. Ok (front ++ more))) e (unit (scripts_from c file others)))
behind c file (text ∷ texts) others scripts h =
    let (script, first, more) = bind_ok (in_file file (script_in c) text) (λ script. scripts_from c (file + 1) texts >>= λ scripts. Ok (script ∷ scripts)) scripts h in
    let (rest, read, e) = bind_ok (scripts_from c (file + 1) texts) (λ (scripts : List (List Op)). Ok (script ∷ scripts)) scripts more in
    let all = scripts_from c file (text ∷ (texts ++ others)) in
    let read_on : List Op → Result (List (List Op)) Refusal = λ script. scripts_from c (file + 1) (texts ++ others) >>= λ scripts. Ok (script ∷ scripts) in
    let place : (file + 1) + length texts ≡ file + suc (length texts) = omega arith in
    let whole : all ≡ (scripts_from c ((file + 1) + length texts) others >>= λ more. Ok ((script ∷ rest) ++ more)) =
    ap (λ r. r >>= read_on) first ∙ ap (λ (r : Result (List (List Op)) Refusal). r >>= λ scripts. Ok (script ∷ scripts)) (behind c (file + 1) texts others rest read)
    ∙ front script rest (scripts_from c ((file + 1) + length texts) others) in
    subst (λ (front : List (List Op)). all ≡ (scripts_from c (file + suc (length texts)) others >>= λ more. Ok (front ++ more))) (ok_same {E = Refusal} (script ∷ rest) scripts e)
    (subst (λ n. all ≡ (scripts_from c n others >>= λ more. Ok ((script ∷ rest) ++ more))) place whole)

-- so many scripts were read as there are names
pub scripts_counted : (c : Configuration) (first : ℕ) (names : List (List ℕ)) (old new : FilesState) (scripts : List (List Op)) → LoadsScripts c first names old new (Ok scripts) → length scripts ≡ length names
scripts_counted c first names old new scripts m =
    omega (arith, scripts_as_many c first m.texts scripts m.finds.0, texts_as_many (λ name text. IsTextOf (old.content name) text) names m.texts m.told)

-- the scripts of these names were read, the first of which is at this place
pub record Front (c : Configuration) (place : ℕ) (first now : FilesState) (names : List (List ℕ)) (scripts : List (List Op)) : Type 0 where
  pub texts : List (List ℕ)
  pub told : AreScriptTexts first names texts
  pub good : scripts_from c place texts ≡ Ok scripts
  pub over : AllByRecursion (IsScriptOver (metric_space c)) scripts
  pub stands : now.faults ≡ first.faults
  pub same : KeepsContents first now

module _ (c : Configuration) (first : ℕ) (f0 f1 : FilesState) (names : List (List ℕ)) (scripts : List (List Op)) (h : Front c first f0 f1 names scripts) where
  place_is : first + length h.texts ≡ first + length scripts
  place_is = omega (arith, scripts_as_many c first h.texts scripts h.good)

  -- what is found in a text behind them
  next : (text : List ℕ) (rest : List (List ℕ)) → scripts_from c first (h.texts ++ text ∷ rest) ≡ (scripts_from c (first + length scripts) (text ∷ rest) >>= λ more. Ok (scripts ++ more))
  next text rest = subst (λ n. scripts_from c first (h.texts ++ text ∷ rest) ≡ (scripts_from c n (text ∷ rest) >>= λ more. Ok (scripts ++ more))) place_is (behind c first h.texts (text ∷ rest) scripts h.good)

  refused : (text : List ℕ) (rest : List (List ℕ)) (refusal : Refusal) → in_file (first + length scripts) (script_in c) text ≡ Err refusal → scripts_from c first (h.texts ++ text ∷ rest) ≡ Err refusal
  refused text rest refusal e =
      next text rest ∙ ap (λ (r : Result (List Op) Refusal). (r >>= λ script. scripts_from c (first + length scripts + 1) rest >>= λ more. Ok (script ∷ more)) >>= λ more. Ok (scripts ++ more)) e

  -- what was found in the file behind them, by its name
  found_at : {f2 : FilesState} {told : List ℕ} {file : ℕ} {result : Result (List Op) Stop} (name : List ℕ) → told ≡ name → file ≡ first + length scripts
      → Loads f1 f2 told file (in_file file (script_in c)) result → LoadsAt f0 f1 f2 name (first + length scripts) (in_file (first + length scripts) (script_in c)) result
  found_at {f2} {told} {file} {result} name named place loads =
      let placed = subst (λ n. Loads f1 f2 told n (in_file n (script_in c)) result) place loads in
      loads_at f0 f1 f2 name (first + length scripts) (in_file (first + length scripts) (script_in c)) result (h.same name)
      (subst (λ n. Loads f1 f2 n (first + length scripts) (in_file (first + length scripts) (script_in c)) result) named placed)

  module _ (f2 : FilesState) (name : List ℕ) {told : List ℕ} {file : ℕ} (named : told ≡ name) (place : file ≡ first + length scripts) where
    -- one more was read
    pub front_more : (script : List Op) → Loads f1 f2 told file (in_file file (script_in c)) (Ok script) → KeepsContents f1 f2
        → IsScriptOver (metric_space c) script → Front c first f0 f2 (names ++ name ∷ []) (scripts ++ script ∷ [])
    front_more script loads keeps over =
        let l = found_at name named place loads in
        record {
          texts = h.texts ++ l.text ∷ [];
          told = each_joined (λ name text. IsTextOf (f0.content name) text) names h.texts (name ∷ []) (l.text ∷ []) h.told (l.told_is, tt);
          good = next l.text [] ∙ ap (λ (r : Result (List Op) Refusal). (r >>= λ script. Ok (script ∷ [])) >>= λ more. Ok (scripts ++ more)) l.finds.0;
          over = all_joined (IsScriptOver (metric_space c)) scripts (script ∷ []) h.over (over, tt);
          stands = l.finds.1 ∙ h.stands;
          same = λ other. keeps other ∙ h.same other;
        }

    finds : (s : Stop) (text : List ℕ) (rest : List (List ℕ)) → Finds {X = List Op} (first + length scripts) f1 f2 (in_file (first + length scripts) (script_in c) text) (Err s)
        → FindsScripts c first (h.texts ++ text ∷ rest) f0 f2 (Err s)
    finds (Refused refusal) text rest found = (refused text rest refusal found.0, found.1 ∙ h.stands)
    finds (Unread file) text rest found =
        let before : take (length h.texts) (h.texts ++ text ∷ rest) ≡ h.texts = take-append_seam h.texts (text ∷ rest) in (
          length h.texts,
          omega (arith, found.0, place_is),
          omega (arith, length-append h.texts (text ∷ rest)),
          subst (λ (r : Result (List (List Op)) Refusal). IsOk r) (sym (ap (scripts_from c first) before ∙ h.good)) refl,
          subst (λ n. Rose n f2.faults) h.stands found.1,
        )
    finds Memory text rest found = found ∙ h.stands

    -- the next could not be read, or is refused
    pub front_stops : (s : Stop) (rest : List (List ℕ)) → Loads {X = List Op} f1 f2 told file (in_file file (script_in c)) (Err s) → LoadsScripts c first (names ++ name ∷ rest) f0 f2 (Err s)
    front_stops s rest loads =
        let l = found_at name named place loads in
        record {
          texts = h.texts ++ l.text ∷ some_texts f0 rest;
          told = each_joined (λ name text. IsTextOf (f0.content name) text) names h.texts (name ∷ rest) (l.text ∷ some_texts f0 rest) h.told (l.told_is, some_texts_are f0 rest);
          finds = finds s l.text (some_texts f0 rest) l.finds;
          grows = omega (arith, h.stands, l.grows);
        }

  -- memory was wanted
  pub front_wants : (all : List (List ℕ)) → LoadsScripts c first all f0 f1 (Err Memory)
  front_wants all = record { texts = some_texts f0 all; told = some_texts_are f0 all; finds = h.stands; grows = omega (arith, h.stands) }

-- the words up to a place, the word there, and those behind it
pub words_around : {W : Type 0} (f : W → List ℕ) (words : List W) (i : ℕ) (w : W) → i < length words → w ≡ get_or words i w
    → map f (take i words) ++ f w ∷ map f (drop (suc i) words) ≡ map f words
words_around f [] i w lt is = absurd (omega arith)
words_around f (x ∷ words) zero w lt is = ap (λ v. f v ∷ map f words) is
words_around f (x ∷ words) (suc i) w lt is = ap (λ ws. f x ∷ ws) (words_around f words i w (omega arith) is)

pub words_to : {W : Type 0} (f : W → List ℕ) (words : List W) (i : ℕ) (w : W) → i < length words → w ≡ get_or words i w → map f (take i words) ++ f w ∷ [] ≡ map f (take (suc i) words)
words_to f [] i w lt is = absurd (omega arith)
words_to f (x ∷ words) zero w lt is = ap (λ v. f v ∷ []) is
words_to f (x ∷ words) (suc i) w lt is = ap (λ ws. f x ∷ ws) (words_to f words i w (omega arith) is)
