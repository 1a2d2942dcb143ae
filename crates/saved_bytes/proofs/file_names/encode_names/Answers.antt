use Rattle.std.proofs.Common.{arith}
use Rattle.saved_bytes.specs.Forms.{written}
use Rattle.saved_bytes.proofs.Files.{text_more}
use Rattle.saved_bytes.proofs.file_names.encode_names.Goals as goal

pub loop-name-preserved : goal.loop-name-preserved
loop-name-preserved c = text_more c.args.names.now c.loop-name.name-index _ (written c.args.out.now) (written c.loop-name.out)
    (written c.put_text.new.self) (omega arith) c.loop-name.invariant c.in_ok-put_text.ensures
