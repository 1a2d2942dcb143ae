use Rattle.std.proofs.Common.{◌≡◌, arith, false}
use Rattle.std.specs.Prelude.{◌==◌}
use Rattle.std.proofs.lemmas.Bool.{ne_eqb}
use Rattle.saved_bytes.specs.Files.{checksum}
use Rattle.saved_bytes.specs.declared.pieces.TheConstants.{VERSION}
use Rattle.saved_bytes.proofs.checksum.checksum.Goals as goal

pub returns-then-version-eq-VERSION : goal.returns-then-version-eq-VERSION
unfolding checksum
returns-then-version-eq-VERSION c =
    let is : c.args.version ≡ VERSION = omega arith in
    rw is c.four_sums.ensures

pub returns-else-version-eq-VERSION : goal.returns-else-version-eq-VERSION
unfolding checksum
returns-else-version-eq-VERSION c =
    let other : (c.args.version == VERSION) ≡ false = ne_eqb c.args.version VERSION c.if-version-eq-VERSION.false in
    rw other c.one_sum.ensures
