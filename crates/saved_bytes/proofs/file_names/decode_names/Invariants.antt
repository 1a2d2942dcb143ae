use Rattle.std.proofs.Common.{◌≡◌, length}
use Rattle.saved_bytes.specs.Forms.Form.{Text}
use Rattle.saved_bytes.specs.Forms.{unread}
use Rattle.saved_bytes.specs.FileNames.{IsFound, IsAnyName}
use Rattle.saved_bytes.proofs.Items.{AreRead}
use Rattle.saved_bytes.proofs.file_names.decode_names.Given as goal

abbrev pub invariant-loop : goal.invariant-loop
invariant-loop l = (length l.found_files.items ≡ l.counter)
    × AreRead IsAnyName Text (IsFound l.files) l.count (unread l.fn.input) l.found_files.items (unread l.input)
