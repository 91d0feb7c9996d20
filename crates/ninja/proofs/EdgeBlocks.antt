-- What is written of an edge, a reader reads as the edge.
use Rattle.std.proofs.Common.{◌≡◌, ℕ, true, false, List, [], ◌∷◌, ◌++◌, map, codes, Option, Some, None, refl, sym, ap, ◌∙◌, subst}
use Rattle.std.proofs.Common.{append_assoc, append-nil}
use Rattle.std.proofs.lemmas.Bool.{and_parts, false≢true}
use Rattle.ninja.specs.Pieces.{Piece, Plain, Outside, escapes, Scope}
use Rattle.ninja.specs.Lines.{without_blanks, plain_name, Token, Path, Colon, Bar, Bars, Between, Within, tokens}
use Rattle.support.specs.OptionSteps.{◌>>=◌}
use Rattle.ninja.specs.Reading.{Empty, Let, BuildHead, statement_of, paths_at, paths_behind_bar, paths_behind_bars}
use Rattle.ninja.specs.Reading.{build_line, BuildLine, State, Manifest, Block, NoBlock, EdgeBlock, file_scope, block_scope}
use Rattle.ninja.specs.Reading.{expansions, edge_of, reads_from}
use Rattle.build.specs.declared.edge.rule.EdgeRule.{EdgeRule as RuleName}
use Rattle.build.specs.declared.edge.rule.EdgeRule.TheVariants.{CCompile, Ar, CLink, Symlink, Custom, CustomDep}
use Rattle.ninja.specs.Writing.{rule_text, paths_text, signed_paths_text, build_text, binding_text, depfile_line, edge_text}
use Rattle.ninja.specs.Escapes.{path_text, value_text}
use Rattle.std.specs.List.{list_all}
use Rattle.build.specs.edge.Holding.{is_path, is_some_list, is_writable, value_held, value_held_if}
use Rattle.ninja.specs.Words.{words_text}
use Rattle.build.specs.edge.Data.{EdgeData}
use Rattle.ninja.specs.Meaning.{with_edge, edge_read, depfile_bindings, edge_seen}
use Rattle.ninja.proofs.Machines.{Passes, passes_none}
use Rattle.ninja.proofs.Pieces.{path_pieces, path_passes, path_again, value_pieces, value_passes, value_again, value_no_blanks}
use Rattle.ninja.proofs.Tokens.{Adds, adds_none, adds_both, adds_all, adds_colon, adds_bar, adds_bars, adds_part, adds_paths}
use Rattle.ninja.proofs.Tokens.{paths_pieces, path_tokens, all_path_pieces}
use Rattle.ninja.proofs.HeldWords.{held_of}
use Rattle.ninja.proofs.ReadLines.{has_newline, IsLine, line_both, line_read, path_in_line, value_in_line}

-- ---- a line `name = value`

abbrev pub plain : List ℕ → List Piece
plain text = map Plain text

abbrev pub binding_pieces : List ℕ → List ℕ → List Piece
binding_pieces name v = Plain 32 ∷ (plain name ++ (plain (codes " = ") ++ value_pieces v))

value_line : (v : List ℕ) → value_held v ≡ true → IsLine (value_text v) (value_pieces v)
value_line v h = record { passes = value_passes v; in_line = value_in_line v h }

-- a name that a line of a block may bind
pub record IsName (name : List ℕ) : Type 0 where
  pub line : IsLine (32 ∷ (name ++ codes " = ")) (Plain 32 ∷ (plain name ++ plain (codes " = ")))
  pub read : (rest : List Piece) → statement_of (Plain 32 ∷ (plain name ++ (plain (codes " = ") ++ rest))) ≡ Some (Let true name (without_blanks rest))

command_name : IsName (codes "COMMAND")
command_name = record { line = record { passes = record { state = refl; given = refl }; in_line = record { none = refl } }; read = λ rest. refl }

desc_name : IsName (codes "DESC")
desc_name = record { line = record { passes = record { state = refl; given = refl }; in_line = record { none = refl } }; read = λ rest. refl }

depfile_name : IsName (codes "DEPFILE")
depfile_name = record { line = record { passes = record { state = refl; given = refl }; in_line = record { none = refl } }; read = λ rest. refl }

binding_line : (name v : List ℕ) → IsName name → value_held v ≡ true → IsLine (binding_text name v) (binding_pieces name v)
binding_line name v n h =
    subst (λ (ps : List Piece). IsLine (binding_text name v) (Plain 32 ∷ ps)) (append_assoc (plain name) (plain (codes " = ")) (value_pieces v))
    (subst (λ (text : List ℕ). IsLine (32 ∷ text) (Plain 32 ∷ ((plain name ++ plain (codes " = ")) ++ value_pieces v))) (append_assoc name (codes " = ") (value_text v))
    (line_both (32 ∷ (name ++ codes " = ")) (value_text v) (Plain 32 ∷ (plain name ++ plain (codes " = "))) (value_pieces v) n.line (value_line v h)))

binding_statement : (name v : List ℕ) → IsName name → statement_of (binding_pieces name v) ≡ Some (Let true name (value_pieces v))
binding_statement name v n = n.read (value_pieces v) ∙ ap (λ ps. Some (Let true name ps)) (value_no_blanks v)

abbrev pub at_block : Manifest → Block → State
at_block m b = record { read = m; block = b }

-- ---- the line `build ..`

-- a word that may stand as a rule
pub record IsRule (rule : List ℕ) : Type 0 where
  pub line : IsLine rule (plain rule)
  pub part : Passes tokens Between (plain rule) [] (Within (plain rule))
  pub name : plain_name (plain rule) ≡ Some rule

paths_line : (ps : List (List ℕ)) → list_all is_path ps ≡ true → IsLine (paths_text ps) (paths_pieces ps)
paths_line [] h = record { passes = passes_none escapes Outside; in_line = record { none = refl } }
paths_line (p ∷ ps) h =
    let k = and_parts (is_path p) (list_all is_path ps) h in
    let blank : IsLine (32 ∷ []) (Plain 32 ∷ []) = record { passes = record { state = refl; given = refl }; in_line = record { none = refl } } in
    let path : IsLine (path_text p) (path_pieces p) = record { passes = path_passes p; in_line = path_in_line p k.0 } in
    line_both (32 ∷ path_text p) (paths_text ps) (Plain 32 ∷ path_pieces p) (paths_pieces ps) (line_both (32 ∷ []) (path_text p) (Plain 32 ∷ []) (path_pieces p) blank path) (paths_line ps k.1)

abbrev pub signed_pieces : List ℕ → List (List ℕ) → List Piece
signed_pieces sign [] = []
signed_pieces sign (p ∷ ps) = plain sign ++ paths_pieces (p ∷ ps)

signed_line : (sign : List ℕ) (ps : List (List ℕ)) → IsLine sign (plain sign) → list_all is_path ps ≡ true → IsLine (signed_paths_text sign ps) (signed_pieces sign ps)
signed_line sign [] s h = record { passes = passes_none escapes Outside; in_line = record { none = refl } }
signed_line sign (p ∷ ps) s h = line_both sign (paths_text (p ∷ ps)) (plain sign) (paths_pieces (p ∷ ps)) s (paths_line (p ∷ ps) h)

-- behind `build`
abbrev pub behind_build : (rule : List ℕ) (outputs inputs implicit order_only : List (List ℕ)) → List Piece
behind_build rule outputs inputs implicit order_only =
    paths_pieces outputs ++ (plain (codes ": ") ++ (plain rule ++ (paths_pieces inputs ++ (signed_pieces (codes " |") implicit ++ signed_pieces (codes " ||") order_only))))

literal_build : IsLine (codes "build") (plain (codes "build"))
literal_build = record { passes = record { state = refl; given = refl }; in_line = record { none = refl } }

literal_colon : IsLine (codes ": ") (plain (codes ": "))
literal_colon = record { passes = record { state = refl; given = refl }; in_line = record { none = refl } }

literal_bar : IsLine (codes " |") (plain (codes " |"))
literal_bar = record { passes = record { state = refl; given = refl }; in_line = record { none = refl } }

literal_bars : IsLine (codes " ||") (plain (codes " ||"))
literal_bars = record { passes = record { state = refl; given = refl }; in_line = record { none = refl } }

-- what a build line needs
pub record IsBuild (rule : List ℕ) (outputs inputs implicit order_only : List (List ℕ)) : Type 0 where
  pub rule_stands : IsRule rule
  pub has_output : is_some_list outputs ≡ true
  pub outputs_held : list_all is_path outputs ≡ true
  pub inputs_held : list_all is_path inputs ≡ true
  pub implicit_held : list_all is_path implicit ≡ true
  pub order_only_held : list_all is_path order_only ≡ true

module _ (rule : List ℕ) (outputs inputs implicit order_only : List (List ℕ)) (b : IsBuild rule outputs inputs implicit order_only) where
  pub build_is_line : IsLine (build_text rule outputs inputs implicit order_only) (plain (codes "build") ++ behind_build rule outputs inputs implicit order_only)
  build_is_line =
      let signs = line_both _ _ _ _ (signed_line (codes " |") implicit literal_bar b.implicit_held) (signed_line (codes " ||") order_only literal_bars b.order_only_held) in
      let ins = line_both _ _ _ _ (paths_line inputs b.inputs_held) signs in
      let ruled = line_both _ _ _ _ b.rule_stands.line ins in
      let coloned = line_both _ _ _ _ literal_colon ruled in
      let outs = line_both _ _ _ _ (paths_line outputs b.outputs_held) coloned in
      line_both _ _ _ _ literal_build outs

abbrev signed_tokens : Token → List (List Piece) → List Token
signed_tokens sign [] = []
signed_tokens sign (p ∷ ps) = sign ∷ path_tokens (p ∷ ps)

adds_signed_bar : (ps : List (List ℕ)) → list_all is_path ps ≡ true → Adds (signed_pieces (codes " |") ps) (signed_tokens Bar (all_path_pieces ps))
adds_signed_bar [] h = adds_none
adds_signed_bar (p ∷ ps) h = adds_both (plain (codes " |")) (paths_pieces (p ∷ ps)) (Bar ∷ []) (path_tokens (all_path_pieces (p ∷ ps))) adds_bar (adds_paths (p ∷ ps) h)

adds_signed_bars : (ps : List (List ℕ)) → list_all is_path ps ≡ true → Adds (signed_pieces (codes " ||") ps) (signed_tokens Bars (all_path_pieces ps))
adds_signed_bars [] h = adds_none
adds_signed_bars (p ∷ ps) h = adds_both (plain (codes " ||")) (paths_pieces (p ∷ ps)) (Bars ∷ []) (path_tokens (all_path_pieces (p ∷ ps))) adds_bars (adds_paths (p ∷ ps) h)

abbrev build_tokens : (rule : List ℕ) (outputs inputs implicit order_only : List (List ℕ)) → List Token
build_tokens rule outputs inputs implicit order_only =
    path_tokens (all_path_pieces outputs) ++ Colon ∷ Path (plain rule) ∷ (path_tokens (all_path_pieces inputs) ++ (signed_tokens Bar (all_path_pieces implicit) ++ signed_tokens Bars (all_path_pieces order_only)))

adds_build : (rule : List ℕ) (outputs inputs implicit order_only : List (List ℕ)) → IsBuild rule outputs inputs implicit order_only → Adds (behind_build rule outputs inputs implicit order_only) (build_tokens rule outputs inputs implicit order_only)
adds_build rule outputs inputs implicit order_only b =
    let outs = paths_pieces outputs in
    let ins = paths_pieces inputs in
    let bar = signed_pieces (codes " |") implicit in
    let bars = signed_pieces (codes " ||") order_only in
    let t_ins = path_tokens (all_path_pieces inputs) in
    let t_bar = signed_tokens Bar (all_path_pieces implicit) in
    let t_bars = signed_tokens Bars (all_path_pieces order_only) in
    let signs = adds_both bar bars t_bar t_bars (adds_signed_bar implicit b.implicit_held) (adds_signed_bars order_only b.order_only_held) in
    let inputs_on = adds_both ins (bar ++ bars) t_ins (t_bar ++ t_bars) (adds_paths inputs b.inputs_held) signs in
    let rule_on = adds_both (Plain 32 ∷ plain rule) (ins ++ (bar ++ bars)) (Path (plain rule) ∷ []) (t_ins ++ (t_bar ++ t_bars)) (adds_part (plain rule) b.rule_stands.part) inputs_on in
    let colon_on = adds_both (Plain 58 ∷ []) (Plain 32 ∷ (plain rule ++ (ins ++ (bar ++ bars)))) (Colon ∷ []) (Path (plain rule) ∷ (t_ins ++ (t_bar ++ t_bars))) adds_colon rule_on in
    adds_both outs (Plain 58 ∷ Plain 32 ∷ (plain rule ++ (ins ++ (bar ++ bars)))) (path_tokens (all_path_pieces outputs)) (Colon ∷ Path (plain rule) ∷ (t_ins ++ (t_bar ++ t_bars))) (adds_paths outputs b.outputs_held) colon_on

-- ---- the tokens of a build line are read

paths_taken : (ps : List (List Piece)) (rest : List Token) → paths_at rest ≡ ([], rest) → paths_at (path_tokens ps ++ rest) ≡ (ps, rest)
paths_taken [] rest e = e
paths_taken (p ∷ ps) rest e = rw (paths_taken ps rest e) refl

paths_taken_all : (ps : List (List Piece)) → paths_at (path_tokens ps) ≡ (ps, [])
paths_taken_all [] = refl
paths_taken_all (p ∷ ps) = rw (paths_taken_all ps) refl

signs_stop : (bs cs : List (List Piece)) → paths_at (signed_tokens Bar bs ++ signed_tokens Bars cs) ≡ ([], signed_tokens Bar bs ++ signed_tokens Bars cs)
signs_stop (b ∷ bs) cs = refl
signs_stop [] (c ∷ cs) = refl
signs_stop [] [] = refl

bars_stop : (cs : List (List Piece)) → paths_at (signed_tokens Bars cs) ≡ ([], signed_tokens Bars cs)
bars_stop [] = refl
bars_stop (c ∷ cs) = refl

implicit_taken : (bs cs : List (List Piece)) → paths_behind_bar (signed_tokens Bar bs ++ signed_tokens Bars cs) ≡ (bs, signed_tokens Bars cs)
implicit_taken (b ∷ bs) cs = paths_taken (b ∷ bs) (signed_tokens Bars cs) (bars_stop cs)
implicit_taken [] (c ∷ cs) = refl
implicit_taken [] [] = refl

order_only_taken : (cs : List (List Piece)) → paths_behind_bars (signed_tokens Bars cs) ≡ (cs, [])
order_only_taken [] = refl
order_only_taken (c ∷ cs) = paths_taken_all (c ∷ cs)

abbrev line_made : (rule : List ℕ) (outputs inputs implicit order_only : List (List ℕ)) → BuildLine
line_made rule outputs inputs implicit order_only = record {
  outputs = all_path_pieces outputs;
  implicit_outputs = [];
  rule = rule;
  inputs = all_path_pieces inputs;
  implicit = all_path_pieces implicit;
  order_only = all_path_pieces order_only;
}

build_line_read : (rule : List ℕ) (o : List ℕ) (os inputs implicit order_only : List (List ℕ)) → plain_name (plain rule) ≡ Some rule → build_line (build_tokens rule (o ∷ os) inputs implicit order_only) ≡ Some (line_made rule (o ∷ os) inputs implicit order_only)
unfolding build_line
build_line_read rule o os inputs implicit order_only e =
    rw (
      paths_taken (all_path_pieces os) (Colon ∷ Path (plain rule) ∷ (path_tokens (all_path_pieces inputs) ++ (signed_tokens Bar (all_path_pieces implicit) ++ signed_tokens Bars (all_path_pieces order_only)))) refl,
      e,
      paths_taken (all_path_pieces inputs) (signed_tokens Bar (all_path_pieces implicit) ++ signed_tokens Bars (all_path_pieces order_only)) (signs_stop (all_path_pieces implicit) (all_path_pieces order_only)),
      implicit_taken (all_path_pieces implicit) (all_path_pieces order_only),
      order_only_taken (all_path_pieces order_only),
    ) refl

build_statement : (rule : List ℕ) (outputs inputs implicit order_only : List (List ℕ)) → IsBuild rule outputs inputs implicit order_only
    → statement_of (plain (codes "build") ++ behind_build rule outputs inputs implicit order_only) ≡ Some (BuildHead (line_made rule outputs inputs implicit order_only))
build_statement rule [] inputs implicit order_only b = absurd (false≢true b.has_output)
build_statement rule (o ∷ os) inputs implicit order_only b =
    ap (λ v. v >>= λ ts. build_line ts >>= λ line. Some (BuildHead line)) (adds_all (behind_build rule (o ∷ os) inputs implicit order_only) (build_tokens rule (o ∷ os) inputs implicit order_only) (adds_build rule (o ∷ os) inputs implicit order_only b))
    ∙ ap (λ v. v >>= λ line. Some (BuildHead line)) (build_line_read rule o os inputs implicit order_only b.rule_stands.name)

paths_again : (scope : Scope) (ps : List (List ℕ)) → expansions scope (all_path_pieces ps) ≡ ps
paths_again scope [] = refl
paths_again scope (p ∷ ps) = rw (path_again scope p, paths_again scope ps) refl

edge_again : (scope : Scope) (rule : List ℕ) (outputs inputs implicit order_only : List (List ℕ)) (bindings : List (List ℕ × List ℕ))
    → edge_of scope (line_made rule outputs inputs implicit order_only) bindings ≡ edge_read rule outputs inputs implicit order_only bindings
edge_again scope rule outputs inputs implicit order_only bindings =
    rw (paths_again scope outputs, paths_again scope inputs, paths_again scope implicit, paths_again scope order_only) refl

-- a build line is read, and then what follows it
pub build_read : (m : Manifest) (rule : List ℕ) (outputs inputs implicit order_only : List (List ℕ)) (after rest : List ℕ) → IsBuild rule outputs inputs implicit order_only
    → reads_from (at_block m NoBlock) ((build_text rule outputs inputs implicit order_only ++ 10 ∷ after) ++ rest) ≡ reads_from (at_block m (EdgeBlock (line_made rule outputs inputs implicit order_only) [])) (after ++ rest)
build_read m rule outputs inputs implicit order_only after rest b =
    let line = line_made rule outputs inputs implicit order_only in
    line_read (at_block m NoBlock) (at_block m (EdgeBlock line [])) (build_text rule outputs inputs implicit order_only) (plain (codes "build") ++ behind_build rule outputs inputs implicit order_only) (BuildHead line) after rest
    (build_is_line rule outputs inputs implicit order_only b)
    (build_statement rule outputs inputs implicit order_only b)
    refl

-- ---- the block of an edge

binding_read : (m : Manifest) (line : BuildLine) (bindings : List (List ℕ × List ℕ)) (name v : List ℕ) (after rest : List ℕ) → IsName name → value_held v ≡ true
    → reads_from (at_block m (EdgeBlock line bindings)) ((binding_text name v ++ 10 ∷ after) ++ rest) ≡ reads_from (at_block m (EdgeBlock line (bindings ++ (name, v) ∷ []))) (after ++ rest)
binding_read m line bindings name v after rest n h =
    line_read (at_block m (EdgeBlock line bindings)) (at_block m (EdgeBlock line (bindings ++ (name, v) ∷ []))) (binding_text name v) (binding_pieces name v) (Let true name (value_pieces v)) after rest
    (binding_line name v n h)
    (binding_statement name v n)
    (ap (λ w. Some (at_block m (EdgeBlock line (bindings ++ (name, w) ∷ [])))) (value_again (file_scope m) v))

pub block_ends : (m : Manifest) (rule : List ℕ) (outputs inputs implicit order_only : List (List ℕ)) (bindings : List (List ℕ × List ℕ)) (rest : List ℕ)
    → reads_from (at_block m (EdgeBlock (line_made rule outputs inputs implicit order_only) bindings)) (10 ∷ rest) ≡ reads_from (at_block (with_edge m (edge_read rule outputs inputs implicit order_only bindings)) NoBlock) rest
block_ends m rule outputs inputs implicit order_only bindings rest =
    let line = line_made rule outputs inputs implicit order_only in
    line_read (at_block m (EdgeBlock line bindings)) (at_block (with_edge m (edge_of (block_scope m bindings) line bindings)) NoBlock) [] [] Empty [] rest
    (record { passes = passes_none escapes Outside; in_line = record { none = refl } }) refl refl
    ∙ ap (λ edge. reads_from (at_block (with_edge m edge) NoBlock) rest) (edge_again (block_scope m bindings) rule outputs inputs implicit order_only bindings)

edge_ends : (m : Manifest) (rule : List ℕ) (outputs inputs implicit order_only : List (List ℕ)) (bindings : List (List ℕ × List ℕ)) (depfile : Option (List ℕ)) (rest : List ℕ) → value_held_if depfile ≡ true
    → reads_from (at_block m (EdgeBlock (line_made rule outputs inputs implicit order_only) bindings)) (depfile_line depfile (10 ∷ []) ++ rest)
    ≡ reads_from (at_block (with_edge m (edge_read rule outputs inputs implicit order_only (bindings ++ depfile_bindings depfile))) NoBlock) rest
edge_ends m rule outputs inputs implicit order_only bindings None rest h =
    block_ends m rule outputs inputs implicit order_only bindings rest
    ∙ ap (λ bs. reads_from (at_block (with_edge m (edge_read rule outputs inputs implicit order_only bs)) NoBlock) rest) (sym (append-nil bindings))
edge_ends m rule outputs inputs implicit order_only bindings (Some path) rest h =
    binding_read m (line_made rule outputs inputs implicit order_only) bindings (codes "DEPFILE") path (10 ∷ []) rest depfile_name h
    ∙ block_ends m rule outputs inputs implicit order_only (bindings ++ (codes "DEPFILE", path) ∷ []) rest

rule_line : (text : List ℕ) → Passes escapes Outside text (plain text) Outside → has_newline (plain text) ≡ false → IsLine text (plain text)
rule_line text p h = record { passes = p; in_line = record { none = h } }

pub is_rule : (r : RuleName) → IsRule (rule_text r)
is_rule CCompile = record { line = rule_line (codes "c_compile") (record { state = refl; given = refl }) refl; part = record { state = refl; given = refl }; name = refl }
is_rule Ar = record { line = rule_line (codes "ar") (record { state = refl; given = refl }) refl; part = record { state = refl; given = refl }; name = refl }
is_rule CLink = record { line = rule_line (codes "c_link") (record { state = refl; given = refl }) refl; part = record { state = refl; given = refl }; name = refl }
is_rule Symlink = record { line = rule_line (codes "symlink") (record { state = refl; given = refl }) refl; part = record { state = refl; given = refl }; name = refl }
is_rule Custom = record { line = rule_line (codes "custom") (record { state = refl; given = refl }) refl; part = record { state = refl; given = refl }; name = refl }
is_rule CustomDep = record { line = rule_line (codes "custom_dep") (record { state = refl; given = refl }) refl; part = record { state = refl; given = refl }; name = refl }

pub is_phony : IsRule (codes "phony")
is_phony = record { line = rule_line (codes "phony") (record { state = refl; given = refl }) refl; part = record { state = refl; given = refl }; name = refl }

pub edge_text_read : (m : Manifest) (e : EdgeData) (rest : List ℕ) → is_writable e ≡ true → reads_from (at_block m NoBlock) (edge_text e ++ rest) ≡ reads_from (at_block (with_edge m (edge_seen e)) NoBlock) rest
edge_text_read m e rest writable =
    let h = held_of e writable in
    let line = line_made (rule_text e.rule) e.outputs e.inputs e.implicit e.order_only in
    let command = words_text e.words e.redirect in
    let end = depfile_line e.depfile (10 ∷ []) in
    let desc = binding_text (codes "DESC") e.description ++ 10 ∷ end in
    build_read m (rule_text e.rule) e.outputs e.inputs e.implicit e.order_only (binding_text (codes "COMMAND") command ++ 10 ∷ desc) rest
    (record { rule_stands = is_rule e.rule; has_output = h.has_output; outputs_held = h.outputs; inputs_held = h.inputs; implicit_held = h.implicit; order_only_held = h.order_only })
    ∙ binding_read m line [] (codes "COMMAND") command desc rest command_name h.command
    ∙ binding_read m line ((codes "COMMAND", command) ∷ []) (codes "DESC") e.description end rest desc_name h.description
    ∙ edge_ends m (rule_text e.rule) e.outputs e.inputs e.implicit e.order_only ((codes "COMMAND", command) ∷ (codes "DESC", e.description) ∷ []) e.depfile rest h.depfile
