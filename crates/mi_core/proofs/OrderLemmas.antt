-- The retired leaves are the last that were split.
use Rattle.std.proofs.Common.{◌≡◌, ℕ, suc, zero, ◌-◌, List, [], ◌∷◌, ◌++◌, length, drop, sym, ap, ◌∙◌, arith, append-nil, length-append}
use Rattle.std.proofs.lemmas.List.{drop-append-le, length-drop}
use Rattle.std.proofs.lemmas.List.Elements.{filter_map-append}
use Rattle.mi_base.specs.declared.records.LogEvent.{LogEvent}
use Rattle.mi_base.specs.declared.records.LogEvent.TheVariants.{Update as Made, Split}
use Rattle.mi_base.specs.declared.records.Update.{Update}
use Rattle.mi_tree.specs.Births.{split_in, splits_in}
use Rattle.mi_core.specs.Claims.{last_of}

-- an update splits nothing
pub updates_split_none : (log : List LogEvent) (a op : ℕ) (u : Update) → splits_in (log ++ Made a op u ∷ []) ≡ splits_in log
updates_split_none log a op u = filter_map-append split_in log (Made a op u ∷ []) ∙ append-nil (splits_in log)

pub order_grows : (retired : List (List ℕ)) (log : List LogEvent) (a op : ℕ) (u : Update) → retired ≡ last_of (length retired) (splits_in log) → retired ≡ last_of (length retired) (splits_in (log ++ Made a op u ∷ []))
order_grows retired log a op u h = h ∙ ap (last_of (length retired)) (sym (updates_split_none log a op u))

-- one more that was split last
last_more : {X : Type 0} (xs ys : List X) (x : X) → ys ≡ last_of (length ys) xs → ys ++ x ∷ [] ≡ last_of (length (ys ++ x ∷ [])) (xs ++ x ∷ [])
last_more xs ys x h =
    let same : length (xs ++ x ∷ []) - length (ys ++ x ∷ []) ≡ length xs - length ys = omega (arith, length-append xs (x ∷ []), length-append ys (x ∷ [])) in
    ap (λ zs. zs ++ x ∷ []) h ∙ sym (drop-append-le (length xs - length ys) xs (x ∷ []) (omega arith)) ∙ ap (λ n. drop n (xs ++ x ∷ [])) (sym same)

pub order_published : (retired : List (List ℕ)) (log : List LogEvent) (p : List ℕ) → retired ≡ last_of (length retired) (splits_in log)
    → retired ++ p ∷ [] ≡ last_of (length (retired ++ p ∷ [])) (splits_in (log ++ Split p ∷ []))
order_published retired log p h = last_more (splits_in log) retired p h ∙ ap (last_of (length (retired ++ p ∷ []))) (sym (filter_map-append split_in log (Split p ∷ [])))

drop_next : {X : Type 0} (n : ℕ) (xs : List X) (y : X) (ys : List X) → y ∷ ys ≡ drop n xs → ys ≡ drop (suc n) xs
drop_next n [] y ys h = absurd (long n h)
  where
    long : {Y : Type 0} {z : Y} {zs : List Y} (m : ℕ) → z ∷ zs ≡ drop m [] → ⊥
    long zero h = cc
    long (suc m) h = cc
drop_next zero (x ∷ xs) y ys h = let e : ys ≡ xs = cc in e
drop_next (suc n) (x ∷ xs) y ys h = drop_next n xs y ys h

-- the first of them is taken
pub order_taken : (p : List ℕ) (ps : List (List ℕ)) (log : List LogEvent) → p ∷ ps ≡ last_of (length (p ∷ ps)) (splits_in log) → ps ≡ last_of (length ps) (splits_in log)
order_taken p ps log h =
    let n : ℕ = length (splits_in log) - suc (length ps) in
    let size : suc (length ps) ≡ length (splits_in log) - n = ap length h ∙ length-drop n (splits_in log) in
    let same : suc n ≡ length (splits_in log) - length ps = omega arith in
    drop_next n (splits_in log) p ps h ∙ ap (λ m. drop m (splits_in log)) same
