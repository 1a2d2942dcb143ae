use Rattle.std.proofs.Common.{◌≡◌, ◌+◌, drop}
use Rattle.saved_bytes.specs.FileNames.{file_index, texts}
use Rattle.saved_bytes.proofs.file_names.file_index.Given as goal

abbrev pub invariant-loop-number : goal.invariant-loop-number
invariant-loop-number l = file_index (texts l.names) l.file ≡ l.number + file_index (texts (drop l.number l.names)) l.file
