-- The plans of filters.
use Rattle.std.specs.Prelude.{ℕ, Bool, true, false, not, List, Option, None, Some}
use Rattle.std.specs.List.{filter}
use Rattle.reactive.specs.Plans.{Plan, Give, Ask}
use Rattle.todo_list.specs.declared.filter.Filter.{Filter}

-- whether a todo is shown, by whether it is done
abbrev pub is_shown : Option Bool → Bool → Bool
is_shown None done = true
is_shown (Some true) done = done
is_shown (Some false) done = not done

abbrev pub filter_plan : Filter → Plan (List (List ℕ × Bool))
filter_plan f = Ask f.all (λ todos. Give (filter (λ t. is_shown f.done t.1) todos))
