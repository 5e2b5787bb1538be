-- The first fault, as the search for it goes on.
use Rattle.std.proofs.Common.{◌≡◌, ℕ, zero, suc, ◌+◌, ◌<◌, List, [], ◌∷◌, ◌++◌, Bool, true, false, Option, None, Some, refl, sym, ap, ◌∙◌, inl, inr, arith, add-one, cond, length, ◌≢◌}
use Rattle.std.specs.List.{find}
use Rattle.std.specs.Option.{option_or}
use Rattle.std.proofs.lemmas.Bool.{cases_lt}
use Rattle.std.proofs.lemmas.List.Folds.{find-append}
use Rattle.mi_table.specs.declared.faults.TableFault.{TableFault}
use Rattle.mi_table.specs.declared.faults.TableFault.TheVariants.{Memory}
use Rattle.mi_table.specs.Faults.{has_fault, faults_of_each, first_among, first_fault, lengths, diagonal, zeros, asymmetries, triangles}
use Rattle.mi_table.specs.Laws.{one_here}

both_none : {X : Type 0} (a b : Option X) → a ≡ None → b ≡ None → option_or a b ≡ None
both_none None b h k = k
both_none (Some x) b h k = cc

first_some : {X : Type 0} (a b : Option X) (x : X) → a ≡ Some x → option_or a b ≡ Some x
first_some None b x h = cc
first_some (Some y) b x h = h

second_some : {X : Type 0} (a b : Option X) (x : X) → a ≡ None → b ≡ Some x → option_or a b ≡ Some x
second_some None b x h k = k
second_some (Some y) b x h k = cc

-- what is found passes
find_passes : {X : Type 0} (p : X → Bool) (xs : List X) (x : X) → find p xs ≡ Some x → p x ≡ true
find_passes p [] x h = cc
find_passes p (y ∷ ys) x h =
    let P : Bool → Type 0 = λ b. p y ≡ b → cond b (Some y) (find p ys) ≡ Some x → p x ≡ true in
    (elim (p y) as P [ true ↦ λ e f. let same : y ≡ x = cc in ap p (sym same) ∙ e | false ↦ λ e f. find_passes p ys x f ]) refl h

module _ (rows : List (List ℕ)) where
  -- two lists without a fault
  pub among_neither : (xs ys : List TableFault) → first_among rows xs ≡ None → first_among rows ys ≡ None → first_among rows (xs ++ ys) ≡ None
  among_neither xs ys h k = find-append (has_fault rows) xs ys ∙ both_none (first_among rows xs) (first_among rows ys) h k

  -- the first list has the first fault
  pub among_first : (xs ys : List TableFault) (fault : TableFault) → first_among rows xs ≡ Some fault → first_among rows (xs ++ ys) ≡ Some fault
  among_first xs ys fault h = find-append (has_fault rows) xs ys ∙ first_some (first_among rows xs) (first_among rows ys) fault h

  -- the second has it, and the first none
  pub among_second : (xs ys : List TableFault) (fault : TableFault) → first_among rows xs ≡ None → first_among rows ys ≡ Some fault → first_among rows (xs ++ ys) ≡ Some fault
  among_second xs ys fault h k = find-append (has_fault rows) xs ys ∙ second_some (first_among rows xs) (first_among rows ys) fault h k

  -- one number more without a fault
  pub each_more : (f : ℕ → List TableFault) (i : ℕ) → first_among rows (faults_of_each i f) ≡ None → first_among rows (f i) ≡ None → first_among rows (faults_of_each (i + 1) f) ≡ None
  each_more f i h k = rw (add-one i) (among_neither (faults_of_each i f) (f i) h k)

  -- the first fault is that of the first number that has one
  pub each_here : (f : ℕ → List TableFault) (n i : ℕ) (fault : TableFault) → i < n → first_among rows (faults_of_each i f) ≡ None → first_among rows (f i) ≡ Some fault → first_among rows (faults_of_each n f) ≡ Some fault
  each_here f zero i fault lt h k = absurd (omega arith)
  each_here f (suc n) i fault lt h k =
      elim (cases_lt i n) [
        | inl below ↦ among_first (faults_of_each n f) (f n) fault (each_here f n i fault below h k)
        | inr above ↦
            let e : n ≡ i = omega arith in
            among_second (faults_of_each n f) (f n) fault (ap (λ m. first_among rows (faults_of_each m f)) e ∙ h) (ap (λ m. first_among rows (f m)) e ∙ k)
      ]

  -- the same for one possible fault of each number
  pub one_more : (f : ℕ → TableFault) (i : ℕ) → first_among rows (faults_of_each i (λ j. f j ∷ [])) ≡ None → has_fault rows (f i) ≡ false → first_among rows (faults_of_each (i + 1) (λ j. f j ∷ [])) ≡ None
  one_more f i h k = each_more (λ j. f j ∷ []) i h (rw k refl)

  pub one_first : (f : ℕ → TableFault) (n i : ℕ) → i < n → first_among rows (faults_of_each i (λ j. f j ∷ [])) ≡ None → has_fault rows (f i) ≡ true → first_among rows (faults_of_each n (λ j. f j ∷ [])) ≡ Some (f i)
  one_first f n i lt h k = each_here (λ j. f j ∷ []) n i (f i) lt h (one_here rows (f i) k)

  -- want of memory is no fault of a table
  pub never_memory : (fault : TableFault) → first_fault rows ≡ Some fault → fault ≢ Memory
  never_memory fault h e =
      let n = length rows in
      let passes : has_fault rows fault ≡ true = find_passes (has_fault rows) (lengths n ++ diagonal n ++ zeros n ++ asymmetries n ++ triangles n) fault h in
      let is_memory : has_fault rows fault ≡ false = ap (has_fault rows) e in
      cc
