-- Behind i digits the number is below ten to the i, and what is left of the digits, read behind it, gives what all of them give.
use Rattle.std.proofs.Common.{length, drop, ◌≡◌, ◌<◌, ◌≤◌, ◌^◌}
use Rattle.calls.specs.Line.{all_digits, value}
use Rattle.calls.proofs.word.Given as goal

abbrev pub invariant-loop-digit : goal.invariant-loop-digit
invariant-loop-digit l = record {
  front : l.digit-index ≤ length l.digits;
  small : l.number < 10 ^ l.digit-index;
  digits : all_digits (drop l.digit-index l.digits) ≡ all_digits l.digits;
  number : value l.number (drop l.digit-index l.digits) ≡ value 0 l.digits;
}
