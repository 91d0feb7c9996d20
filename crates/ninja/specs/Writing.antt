-- Defines the text of `build.ninja`: a head with the rules, a block for each edge, and a tail with what is made by default.
use Rattle.std.specs.Prelude.{ℕ, List, [], ◌∷◌, ◌++◌, Option, Some, None, codes}
use Rattle.std.specs.List.{flat_map}
use Rattle.build.specs.declared.edge.rule.EdgeRule.{EdgeRule}
use Rattle.build.specs.declared.edge.rule.EdgeRule.TheVariants.{CCompile, Ar, CLink, Symlink, Custom, CustomDep}
use Rattle.build.specs.edge.Data.{EdgeData}
use Rattle.ninja.specs.Escapes.{path_text, value_text}
use Rattle.ninja.specs.Words.{words_text}

-- Returns a line and what follows.
abbrev pub line : List ℕ → List ℕ → List ℕ
line text rest = text ++ (codes "\n" ++ rest)

-- ---- the line of an edge

-- Returns a space and the text of a path, with a `$` before each dollar sign, space and colon of the path.
abbrev pub spaced_path_text : List ℕ → List ℕ
spaced_path_text path = codes " " ++ path_text path

-- Returns the text of paths, each after a space.
abbrev pub paths_text : List (List ℕ) → List ℕ
paths_text paths = flat_map spaced_path_text paths

-- Returns paths after a sign, if there are any.
abbrev pub signed_paths_text : List ℕ → List (List ℕ) → List ℕ
signed_paths_text sign [] = []
signed_paths_text sign (p ∷ ps) = sign ++ paths_text (p ∷ ps)

-- Returns the name of a rule in `build.ninja`.
abbrev pub rule_text : EdgeRule → List ℕ
rule_text CCompile = codes "c_compile"
rule_text Ar = codes "ar"
rule_text CLink = codes "c_link"
rule_text Symlink = codes "symlink"
rule_text Custom = codes "custom"
rule_text CustomDep = codes "custom_dep"

-- Returns the needed paths: the inputs, ` |` and the implicit ones, ` ||` and the order-only ones.
abbrev pub needs_text : (inputs implicit order_only : List (List ℕ)) → List ℕ
needs_text inputs implicit order_only =
    paths_text inputs ++ (signed_paths_text (codes " |") implicit ++ signed_paths_text (codes " ||") order_only)

-- Returns the line of outputs, a rule, and the needed paths.
abbrev pub build_text : (rule : List ℕ) (outputs inputs implicit order_only : List (List ℕ)) → List ℕ
build_text rule outputs inputs implicit order_only =
    codes "build" ++ (paths_text outputs ++ (codes ": " ++ (rule ++ needs_text inputs implicit order_only)))

-- ---- the block of an edge

-- Returns an indented line, without its end.
abbrev pub binding_text : List ℕ → List ℕ → List ℕ
binding_text name value = codes " " ++ (name ++ (codes " = " ++ value_text value))

-- Returns the line that names the depfile, if there is one, and what follows.
abbrev pub depfile_line : Option (List ℕ) → List ℕ → List ℕ
depfile_line None rest = rest
depfile_line (Some path) rest = line (binding_text (codes "DEPFILE") path) rest

-- Returns the `build` line of an edge, without its newline.
abbrev pub build_line : EdgeData → List ℕ
build_line e = build_text (rule_text e.rule) e.outputs e.inputs e.implicit e.order_only

-- Returns the block of an edge: its outputs, its rule and the needed paths, then its command, description and depfile, and an empty line.
abbrev pub edge_text : EdgeData → List ℕ
edge_text e =
    line (build_line e) (line (binding_text (codes "COMMAND") (words_text e.words e.redirect))
    (line (binding_text (codes "DESC") e.description) (depfile_line e.depfile (line [] []))))

-- ---- the file

-- Returns the first lines of a rule and what follows.
abbrev pub rule_head_text : List ℕ → List ℕ → List ℕ
rule_head_text name rest = line (codes "rule " ++ name) (line (codes " command = $COMMAND") (line (codes " description = $DESC") rest))

-- Returns the text of the rules of `build.ninja`.
abbrev pub head_text : List ℕ
head_text =
    line (codes "ninja_required_version = 1.3") (line []
    (rule_head_text (codes "c_compile") (line (codes " depfile = $DEPFILE") (line (codes " deps = gcc") (line []
    (rule_head_text (codes "ar") (line []
    (rule_head_text (codes "c_link") (line []
    (rule_head_text (codes "symlink") (line []
    (rule_head_text (codes "custom") (line []
    (rule_head_text (codes "custom_dep") (line (codes " depfile = $DEPFILE") (line [] []))))))))))))))))

-- Returns the blocks of edges, in order.
abbrev pub edges_text : List EdgeData → List ℕ
edges_text edges = flat_map edge_text edges

-- Returns the edge `all`, which makes these paths, and the statement that makes it the default.
abbrev pub tail_text : List (List ℕ) → List ℕ
tail_text paths = line (build_text (codes "phony") (codes "all" ∷ []) paths [] []) (line [] (line (codes "default all") []))

-- Returns the file of these edges, which makes these paths by default.
abbrev pub file_text : List EdgeData → List (List ℕ) → List ℕ
file_text edges paths = head_text ++ (edges_text edges ++ tail_text paths)
