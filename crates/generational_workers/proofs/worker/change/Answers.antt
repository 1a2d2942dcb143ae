use Rattle.std.proofs.Common.{◌∙◌, ap, refl, rules}
use Rattle.generational_workers.proofs.worker.change.Goals as goal

pub returns : goal.returns
returns g c = (
  _,
  record {
    shown = _;
    shows = c.deref_mut-2.ensures.value ∙ ap (λ m. m.value) c.deref_mut.ensures.unchanged;
    left = _;
    met = c.f.ensures;
    leaves = refl;
  },
  search rules,
)
