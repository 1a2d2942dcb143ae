-- The plans of memos of what a job computes.
use Rattle.std.specs.Prelude.{ℕ, Bool, ◌*◌, ◌%◌, ◌^◌}
use Rattle.reactive.specs.Plans.{Plan, Give, Ask}
use Rattle.example_libraries.specs.declared.resources.Load.{Load}
use Rattle.example_libraries.specs.declared.resources.Load.TheVariants as load

abbrev pub load_plan : Load → Plan (ℕ × Bool)
load_plan (load.Twice a) = Ask a (λ loaded. Give ((loaded.0 * 2) % 2 ^ 64, loaded.1))
