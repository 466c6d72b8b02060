-- The faults of items: the number of each, which is that of its cause, and the layer that it comes from.
use Rattle.std.specs.Prelude.{ℕ, cond, ◌||◌, List, codes, ◌==◌}
use Rattle.streams.specs.Refusals.{read_number, read_text}
use Rattle.fields.specs.Refusals.{type_number, advance_number, type_text, advance_text}
use Rattle.reading.specs.Refusals.{fault_number, fault_text}
use Rattle.faults.specs.declared.layer.Layer.{Layer}
use Rattle.faults.specs.declared.layer.Layer.TheVariants as layer
use Rattle.faults.specs.declared.item_fault.ItemFault.{ItemFault}
use Rattle.faults.specs.declared.item_fault.ItemFault.TheVariants.{Source, Value, «Type», Field}

-- 1 from the source; 2 and 3 from the type byte; 9 from the order of fields; the others from the value.
abbrev pub item_number : ItemFault → ℕ
item_number (Source e) = read_number e
item_number (Value e) = fault_number e
item_number («Type» e) = type_number e
item_number (Field e) = advance_number e

-- The layer of a number: the source for 1, the item for 2, 3 and 9, else the value.
abbrev pub layer_of : ℕ → Layer
layer_of n = cond (n == 1) layer.Source (cond (n == 2 || (n == 3 || n == 9)) layer.Item layer.Value)

abbrev pub layer_name : Layer → List ℕ
layer_name layer.Source = codes "source"
layer_name layer.Value = codes "value"
layer_name layer.Item = codes "item"

-- What a fault says to people: what its cause says.
abbrev pub item_text : ItemFault → List ℕ
item_text (Source e) = read_text e
item_text (Value e) = fault_text e
item_text («Type» e) = type_text e
item_text (Field e) = advance_text e
