-- How a field is read as a number.
use Rattle.std.specs.Prelude.{ℕ, ℤ, pos, neg_ℤ, unsigned_abs, ◌+◌, ◌-◌, ◌*◌, ◌==◌, ◌&&◌, if◌then◌else◌, List, [], ◌∷◌, length, Bool, Option, Some, None, option_map, Result, Ok, Err, nat_le, int_le, fold}
use Rattle.std.specs.List.{list_all}
use Rattle.std.specs.Char.{is_ascii_digit}
use Rattle.mi_input.specs.declared.faults.Reason.{Reason}
use Rattle.mi_input.specs.declared.faults.Reason.TheVariants.{Number, Range}
use Rattle.mi_input.specs.Faults.{◌>>=◌}

-- the value of digits in base ten
abbrev pub decimal_value : List ℕ → ℕ
decimal_value digits = fold (λ value digit. value * 10 + (digit - 48)) 0 digits

-- 1 to 20 digits
abbrev pub are_digits : List ℕ → Bool
are_digits field = nat_le 1 (length field) && nat_le (length field) 20 && list_all is_ascii_digit field

-- a number without a sign
unfoldable pub natural_in : List ℕ → Option ℕ
natural_in field = if are_digits field then Some (decimal_value field) else None

-- a number with one sign, + (43) or - (45), or with none
unfoldable pub number_in : List ℕ → Option ℤ
number_in [] = None
number_in (byte ∷ rest) =
    if byte == 43 then option_map pos (natural_in rest)
    else if byte == 45 then option_map (λ n. neg_ℤ (pos n)) (natural_in rest)
    else option_map pos (natural_in (byte ∷ rest))

-- the number, if the field is one and it lies within the bounds, both included
abbrev pub number_within : ℤ → ℤ → Option ℤ → Result ℤ Reason
number_within least most None = Err Number
number_within least most (Some number) = if int_le least number && int_le number most then Ok number else Err Range

unfoldable pub whole_in : ℤ → ℤ → List ℕ → Result ℤ Reason
whole_in least most field = number_within least most (number_in field)

-- the same where the bounds have no sign
unfoldable pub count_in : ℕ → ℕ → List ℕ → Result ℕ Reason
count_in least most field = whole_in (pos least) (pos most) field >>= λ number. Ok (unsigned_abs number)
