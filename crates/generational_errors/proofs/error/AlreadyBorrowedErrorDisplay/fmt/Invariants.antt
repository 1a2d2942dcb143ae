use Rattle.std.proofs.Common.{take, ◌∷◌}
use Rattle.std.specs.Fmt.{HasWritten, IsPlainFormatter}
use Rattle.std.specs.List.{flat_map}
use Rattle.generational_errors.specs.Texts.{location_text}
use Rattle.generational_errors.proofs.error.AlreadyBorrowedErrorDisplay.fmt.Given as goal

abbrev pub invariant-loop-location : goal.invariant-loop-location
invariant-loop-location g l = IsPlainFormatter l.initial.f → HasWritten g.W.Write.write_str_gives
    l.initial.f (flat_map (λ p. 9 ∷ location_text p) (take l.location-index l.location-items)) l.f
