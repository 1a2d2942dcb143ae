use Rattle.std.proofs.Common.{take}
use Rattle.saved_bytes.specs.Forms.Form.{Text}
use Rattle.saved_bytes.specs.Forms.{Appends, items_form, written}
use Rattle.saved_bytes.specs.FileNames.{texts}
use Rattle.saved_bytes.proofs.file_names.encode_names.Given as goal

abbrev pub invariant-loop-name : goal.invariant-loop-name
invariant-loop-name l = Appends (items_form Text (texts (take l.name-index l.names))) (written l.fn.out) (written l.out)
