-- The variants of an item: the byte for each, and its fields.
use Rattle.std.specs.Prelude.{ℕ}
use Rattle.std.specs.Int.{w32}
use Rattle.std.specs.String.{string_bytes}
use Rattle.saved_bytes.specs.Forms.{Form}
use Rattle.example_files.specs.declared.own.Item.{Item}
use Rattle.example_files.specs.declared.own.Item.TheVariants.{Key, Coins, Potion}

abbrev pub item_tag : Item → ℕ
item_tag Key = 0
item_tag (Coins n) = 1
item_tag (Potion p) = 2

abbrev pub item_fields : Item → Form
item_fields Key = Form.Nothing
item_fields (Coins n) = Form.Number w32 n
item_fields (Potion p) = Form.Both (Form.Text (string_bytes p.0)) (Form.Number w32 p.1)
