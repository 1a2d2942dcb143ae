-- What is written of a graph.
use Rattle.std.specs.Prelude.{ℕ, List, [], ◌∷◌, ◌++◌, codes, if◌then◌else◌, nat_eq, nat_lt, ◌||◌}
use Rattle.std.specs.List.{flat_map}
use Rattle.generational_dot.specs.declared.graph.Flow.{Flow}
use Rattle.generational_dot.specs.declared.graph.Flow.TheVariants as flow
use Rattle.generational_dot.specs.declared.graph.Line.{Line}
use Rattle.generational_dot.specs.declared.graph.Line.TheVariants as line
use Rattle.generational_dot.specs.declared.graph.Look.{Look}
use Rattle.generational_dot.specs.declared.graph.Look.TheVariants as look

-- a quote, a backslash, an ampersand and a line end are escaped, and other control characters are spaces
abbrev pub escaped_byte : ℕ → List ℕ
escaped_byte b =
    if nat_eq b 34 then codes "\\\""
    else if nat_eq b 92 then codes "\\\\"
    else if nat_eq b 38 then codes "&amp;"
    else if nat_eq b 10 then codes "\\n"
    else if nat_lt b 32 || nat_eq b 127 then codes " "
    else b ∷ []

abbrev pub escaped : List ℕ → List ℕ
escaped text = flat_map escaped_byte text

abbrev pub quoted : List ℕ → List ℕ
quoted text = codes "\"" ++ (escaped text ++ codes "\"")

-- the first lines of a graph
abbrev pub flow_text : Flow → List ℕ
flow_text flow.Down = codes "digraph {\n    ordering=out;\n"
flow_text flow.Right = codes "digraph {\n    rankdir=LR;\n"

abbrev pub begin_text : Flow → List ℕ
begin_text f = flow_text f ++ codes "    node [shape=box, style=dashed, fontname=\"sans-serif\"];\n"

abbrev pub look_text : Look → List ℕ
look_text look.Box = codes " [style=solid, label=\""
look_text look.Dashed = codes " [label=\""
look_text look.Round = codes " [shape=ellipse, style=solid, label=\""

-- the line of a node with a label
abbrev pub node_text : Look → List ℕ → List ℕ → List ℕ
node_text l name label =
    ((codes "    " ++ quoted name) ++ look_text l) ++ (escaped label ++ codes "\"];\n")

abbrev pub line_text : Line → List ℕ
line_text line.Solid = codes ";\n"
line_text line.Dotted = codes " [style=dotted];\n"

-- the line of an edge
abbrev pub edge_text : Line → List ℕ → List ℕ → List ℕ
edge_text l from to =
    ((codes "    " ++ quoted from) ++ (codes " -> " ++ quoted to)) ++ line_text l
