use Rattle.std.proofs.Common.{◌≡◌, ◌<◌, ◌≤◌, ◌^◌, length, take, true}
use Rattle.std.specs.List.{list_all}
use Rattle.std.specs.Char.{is_ascii_digit}
use Rattle.mi_input.specs.Numbers.{decimal_value}
use Rattle.mi_input.proofs.numbers.natural.Given as goal

-- the digits so far are read
abbrev pub invariant-loop-byte : goal.invariant-loop-byte
invariant-loop-byte l = record {
  digits : list_all is_ascii_digit (take l.byte-index l.field) ≡ true;
  value : l.value ≡ decimal_value (take l.byte-index l.field);
  small : l.value < 10 ^ l.byte-index;
  few : length l.field ≤ 20;
}
