use Rattle.std.proofs.Common.{take, ◌≡◌}
use Rattle.std.specs.List.{filter}
use Rattle.todo_list.specs.Todos.{is_shown}
use Rattle.todo_list.proofs.filter.shown.Given as goal

-- Of the todos before this one those that are shown are copied.
abbrev pub invariant-loop-todo : goal.invariant-loop-todo
invariant-loop-todo l = l.made ≡ filter (λ t. is_shown l.done t.1) (take l.todo-index l.todos)
