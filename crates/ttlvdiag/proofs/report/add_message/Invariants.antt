use Rattle.std.proofs.Common.{◌≡◌, ◌++◌, length, string_bytes}
use Rattle.hexadecimal.specs.Digits.{hexed}
use Rattle.hexadecimal.specs.Layers.{hex_ahead}
use Rattle.ttlvdiag.specs.Reports.{message_text}
use Rattle.ttlvdiag.proofs.report.add_message.Given as goal

abbrev pub invariant-loop-message : goal.invariant-loop-message
invariant-loop-message l = record {
  shown : string_bytes l.out ++ hexed (hex_ahead l.message.ended l.message.below) ≡ string_bytes l.initial.out ++ message_text l.line;
  places : length l.part ≡ 256;
}

abbrev pub decreases-loop-message : goal.decreases-loop-message
decreases-loop-message l = length (hex_ahead l.message.ended l.message.below)
