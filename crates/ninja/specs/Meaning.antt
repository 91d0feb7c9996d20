-- Defines what a reader is to read of an edge, and of the file.
use Rattle.std.specs.Prelude.{◌≡◌, ℕ, List, [], ◌∷◌, ◌++◌, Option, Some, None, codes}
use Rattle.ninja.specs.Pieces.{Piece, Variable, Plain}
use Rattle.build.specs.edge.Data.{EdgeData}
use Rattle.ninja.specs.Commands.{shell_command}
use Rattle.ninja.specs.Reading.{value_of, Manifest, BuildEdge, Rule, State, NoBlock}
use Rattle.ninja.specs.Writing.{rule_text}
use Rattle.ninja.specs.Words.{words_text}

-- Returns the state between two blocks, after reading m.
abbrev pub after_reading : Manifest → State
after_reading m = record { read = m; block = NoBlock }

-- Returns the manifest with one more edge, after the others.
abbrev pub with_edge : Manifest → BuildEdge → Manifest
with_edge m edge = record m { edges = m.edges ++ edge ∷ [] }

-- Returns the edge that a reader reads, without implicit outputs.
abbrev pub edge_read : (rule : List ℕ) (outputs inputs implicit order_only : List (List ℕ)) → List (List ℕ × List ℕ) → BuildEdge
edge_read rule outputs inputs implicit order_only bindings = record {
  outputs = outputs;
  implicit_outputs = [];
  rule = rule;
  inputs = inputs;
  implicit = implicit;
  order_only = order_only;
  bindings = bindings;
}

-- Returns the variable of the depfile, if there is one.
abbrev pub depfile_bindings : Option (List ℕ) → List (List ℕ × List ℕ)
depfile_bindings None = []
depfile_bindings (Some path) = (codes "DEPFILE", path) ∷ []

-- Returns the edge that a reader reads from an edge's block, with its variables `COMMAND`, `DESC` and `DEPFILE`.
abbrev pub edge_seen : EdgeData → BuildEdge
edge_seen e = edge_read (rule_text e.rule) e.outputs e.inputs e.implicit e.order_only
    ((codes "COMMAND", words_text e.words e.redirect) ∷ (codes "DESC", e.description) ∷ depfile_bindings e.depfile)

-- Returns the edges that a reader reads from the blocks of edges, in order.
abbrev pub edges_seen : List EdgeData → List BuildEdge
edges_seen [] = []
edges_seen (e ∷ es) = edge_seen e ∷ edges_seen es

-- Returns a rule's variable whose value is a variable of the edge.
abbrev pub variable : List ℕ → List ℕ → List ℕ × List Piece
variable name of = (name, Variable of ∷ [])

-- Returns a rule without a depfile.
abbrev pub plain_rule : List ℕ → Rule
plain_rule name = record {
  name = name;
  bindings = variable (codes "command") (codes "COMMAND") ∷ variable (codes "description") (codes "DESC") ∷ [];
}

-- Returns the rules of `build.ninja`.
abbrev pub six_rules : List Rule
six_rules =
    record {
      name = codes "c_compile";
      bindings = variable (codes "command") (codes "COMMAND") ∷ variable (codes "description") (codes "DESC")
          ∷ variable (codes "depfile") (codes "DEPFILE") ∷ (codes "deps", Plain 103 ∷ Plain 99 ∷ Plain 99 ∷ []) ∷ [];
    }
    ∷ plain_rule (codes "ar") ∷ plain_rule (codes "c_link") ∷ plain_rule (codes "symlink") ∷ plain_rule (codes "custom")
    ∷ record {
      name = codes "custom_dep";
      bindings = variable (codes "command") (codes "COMMAND") ∷ variable (codes "description") (codes "DESC")
          ∷ variable (codes "depfile") (codes "DEPFILE") ∷ [];
    }
    ∷ []

-- Returns the manifest that a reader reads from the head of `build.ninja`: the required version and the six rules.
abbrev pub head_seen : Manifest
head_seen = record { variables = (codes "ninja_required_version", codes "1.3") ∷ []; rules = six_rules; edges = []; defaults = [] }

-- Returns the edge `all`, which makes these paths.
abbrev pub all_seen : List (List ℕ) → BuildEdge
all_seen names = edge_read (codes "phony") (codes "all" ∷ []) names [] [] []

-- Returns the manifest that a reader reads from `build.ninja`: the six rules, the edges, the edge `all`, and the default `all`.
abbrev pub file_seen : List EdgeData → List (List ℕ) → Manifest
file_seen es names = record {
  variables = (codes "ninja_required_version", codes "1.3") ∷ [];
  rules = six_rules;
  edges = edges_seen es ++ all_seen names ∷ [];
  defaults = codes "all" ∷ [];
}

-- Holds if the edge's command is these words.
abbrev pub RunsWords : Manifest → EdgeData → Type 0
RunsWords m e = (text : List ℕ) × (value_of m (edge_seen e) (codes "command") ≡ Some text)
    × (shell_command text ≡ Some (record { words = e.words; redirect = e.redirect }))

-- Holds if the command of each edge is its words.
abbrev pub EachRunsWords : Manifest → List EdgeData → Type 0
EachRunsWords m [] = Unit {0}
EachRunsWords m (e ∷ es) = RunsWords m e × EachRunsWords m es
