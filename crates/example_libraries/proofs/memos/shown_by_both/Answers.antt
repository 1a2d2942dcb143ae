use Rattle.example_libraries.proofs.memos.shown_by_both.Goals as goal

pub returns-in-Ok-get : goal.returns-in-Ok-get
returns-in-Ok-get g c = c.nodes_mean_one_value.ensures.alike _ _ c.args.one c.args.other c.in-Ok.a c.in-Ok-get.b
    c.in-Ok.ensures.plans c.requires c.in-Ok.ensures.answer c.in-Ok-get.ensures.answer
