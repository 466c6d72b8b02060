-- The refusals of values: the number of each case.
use Rattle.std.specs.Prelude.{ℕ, List, ◌++◌, codes, decimal}
use Rattle.fields.specs.Types.{type_name}
use Rattle.values.specs.declared.refusals.WriteRefusal.{WriteRefusal}
use Rattle.values.specs.declared.refusals.WriteRefusal.TheVariants.{TooLong, NoRoom}
use Rattle.values.specs.declared.refusals.ValueRefusal.{ValueRefusal}
use Rattle.values.specs.declared.refusals.ValueRefusal.TheVariants.{InvalidTtlvValueLength, InvalidTtlvValue}

-- Writing a value alone: 15, longer than a message may be; 8, longer than the room.
abbrev pub write_number : WriteRefusal → ℕ
write_number TooLong = 15
write_number NoRoom = 8

-- Bytes that are no value of a kind: 4, a wrong length, which it tells with the right one; 5, a Boolean above 1 or bytes that are not text.
abbrev pub value_number : ValueRefusal → ℕ
value_number (InvalidTtlvValueLength expected actual kind) = 4
value_number (InvalidTtlvValue kind) = 5

-- What each refusal says to people.
abbrev pub write_text : WriteRefusal → List ℕ
write_text TooLong = codes "refused 15: longer than a message may be"
write_text NoRoom = codes "refused 8: no room for the value"

abbrev pub value_text : ValueRefusal → List ℕ
value_text (InvalidTtlvValueLength expected actual kind) =
    codes "refused 4: " ++ (type_name kind ++ (codes " has " ++ (decimal expected ++ (codes " bytes, and not " ++ decimal actual))))
value_text (InvalidTtlvValue kind) = codes "refused 5: the bytes are no " ++ type_name kind
