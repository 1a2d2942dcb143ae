use Rattle.std.proofs.Common.{◌≡◌, drop}
use Rattle.saved_bytes.specs.FileNames.{is_listed}
use Rattle.saved_bytes.proofs.file_names.find_file.Given as goal

abbrev pub invariant-loop-file : goal.invariant-loop-file
invariant-loop-file l = is_listed l.files l.name ≡ is_listed (drop l.file-index l.files) l.name
