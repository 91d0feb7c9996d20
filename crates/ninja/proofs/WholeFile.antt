-- The whole file is read as its rules, edges and default, and each command as its words.
use Rattle.std.proofs.Common.{◌≡◌, ℕ, true, List, [], ◌∷◌, ◌++◌, length, suc, codes, Option, Some, None, refl, sym, ap, ◌∙◌, append_assoc}
use Rattle.std.proofs.Common.{append-nil}
use Rattle.std.proofs.lemmas.Bool.{and_parts, false≢true}
use Rattle.ninja.specs.Machine.{before}
use Rattle.ninja.specs.Pieces.{Piece, Outside, escapes, pieces_of}
use Rattle.ninja.specs.Lines.{lines_of}
use Rattle.support.specs.OptionSteps.{◌>>=◌}
use Rattle.ninja.specs.Reading.{State, Manifest, BuildEdge, after_lines, reads_from, nothing_read, manifest_of, value_of}
use Rattle.ninja.specs.Reading.{value_at, rule_named, manifest_after_block}
use Rattle.ninja.specs.Commands.{shell_command}
use Rattle.build.specs.declared.edge.rule.EdgeRule.{EdgeRule as RuleName}
use Rattle.build.specs.declared.edge.rule.EdgeRule.TheVariants.{CCompile, Ar, CLink, Symlink, Custom, CustomDep}
use Rattle.ninja.specs.Writing.{rule_text, edge_text, head_text, edges_text, tail_text, file_text}
use Rattle.ninja.specs.Words.{words_text}
use Rattle.std.specs.List.{list_all}
use Rattle.build.specs.edge.Holding.{is_path, is_some_list, is_writable, are_writable}
use Rattle.build.specs.edge.Data.{EdgeData}
use Rattle.ninja.specs.Meaning.{after_reading, with_edge, edge_read, edge_seen, edges_seen, six_rules, head_seen, all_seen}
use Rattle.ninja.specs.Meaning.{file_seen, RunsWords, EachRunsWords, depfile_bindings}
use Rattle.ninja.proofs.Machines.{Passes, passes_on, given_over}
use Rattle.ninja.proofs.HeldWords.{held_of}
use Rattle.ninja.proofs.ShellWords.{words_again}
use Rattle.ninja.proofs.EdgeBlocks.{is_phony, build_read, block_ends, edge_text_read}

-- ---- the head

all_lines : (s t : State) (ps : List Piece) (rest : Option (List Piece)) → ((qs : List Piece) → after_lines s (lines_of (ps ++ qs)) ≡ after_lines t (lines_of qs))
    → (before ps rest >>= λ qs. after_lines s (lines_of qs)) ≡ (rest >>= λ qs. after_lines t (lines_of qs))
all_lines s t ps None e = refl
all_lines s t ps (Some qs) e = e qs

-- a text of whole lines is read, and then what follows it
lines_read : (s t : State) (text : List ℕ) (ps : List Piece) (rest : List ℕ) → Passes escapes Outside text ps Outside → ((qs : List Piece) → after_lines s (lines_of (ps ++ qs)) ≡ after_lines t (lines_of qs))
    → reads_from s (text ++ rest) ≡ reads_from t rest
lines_read s t text ps rest p e =
    ap (λ v. v >>= λ qs. after_lines s (lines_of qs)) (passes_on escapes Outside text ps Outside rest p) ∙ all_lines s t ps (pieces_of rest) e

pub head_read : (rest : List ℕ) → reads_from (after_reading nothing_read) (head_text ++ rest) ≡ reads_from (after_reading head_seen) rest
head_read rest = lines_read (after_reading nothing_read) (after_reading head_seen) head_text (given_over escapes Outside head_text) rest (record { state = refl; given = refl }) (λ qs. refl)

-- ---- the edges

abbrev with_edges : Manifest → List BuildEdge → Manifest
with_edges m es = record m { edges = m.edges ++ es }

edges_read : (m : Manifest) (es : List EdgeData) (rest : List ℕ) → are_writable es ≡ true → reads_from (after_reading m) (edges_text es ++ rest) ≡ reads_from (after_reading (with_edges m (edges_seen es))) rest
edges_read m [] rest h = ap (λ es. reads_from (after_reading (record m { edges = es })) rest) (sym (append-nil m.edges))
edges_read m (e ∷ es) rest h =
    let k = and_parts (is_writable e) (are_writable es) h in
    ap (reads_from (after_reading m)) (append_assoc (edge_text e) (edges_text es) rest)
    ∙ edge_text_read m e (edges_text es ++ rest) k.0
    ∙ edges_read (with_edge m (edge_seen e)) es rest k.1
    ∙ ap (λ all. reads_from (after_reading (record m { edges = all })) rest) (append_assoc m.edges (edge_seen e ∷ []) (edges_seen es))

-- ---- the tail

abbrev with_default : Manifest → Manifest
with_default m = record m { defaults = m.defaults ++ codes "all" ∷ [] }

default_read : (m : Manifest) → reads_from (after_reading m) (codes "default all" ++ 10 ∷ []) ≡ Some (after_reading (with_default m))
default_read m = refl

tail_read : (m : Manifest) (names : List (List ℕ)) → list_all is_path names ≡ true → reads_from (after_reading m) (tail_text names) ≡ Some (after_reading (with_default (with_edge m (all_seen names))))
tail_read m names h =
    let last = 10 ∷ (codes "default all" ++ 10 ∷ []) in
    ap (reads_from (after_reading m)) (sym (append-nil (tail_text names)))
    ∙ build_read m (codes "phony") (codes "all" ∷ []) names [] [] last [] (record { rule_stands = is_phony; has_output = refl; outputs_held = refl; inputs_held = h; implicit_held = refl; order_only_held = refl })
    ∙ block_ends m (codes "phony") (codes "all" ∷ []) names [] [] [] (codes "default all" ++ 10 ∷ [])
    ∙ default_read (with_edge m (all_seen names))

-- ---- the file

pub file_read : (es : List EdgeData) (names : List (List ℕ)) → are_writable es ≡ true → list_all is_path names ≡ true → manifest_of (file_text es names) ≡ Some (file_seen es names)
file_read es names h k =
    ap (λ v. v >>= λ s. Some (manifest_after_block s.read s.block))
    (head_read (edges_text es ++ tail_text names) ∙ edges_read head_seen es (tail_text names) h ∙ tail_read (with_edges head_seen (edges_seen es)) names k)

-- ---- the commands

module _ (m : Manifest) (outputs inputs implicit order_only : List (List ℕ)) (command desc : List ℕ) where
  command_at : (r : RuleName) (depfile : Option (List ℕ))
      → (rule_named six_rules (rule_text r) >>= λ rule. value_at (suc (length rule.bindings)) m rule (edge_read (rule_text r) outputs inputs implicit order_only ((codes "COMMAND", command) ∷ (codes "DESC", desc) ∷ depfile_bindings depfile)) (codes "command")) ≡ Some command
  command_at CCompile None = ap Some (append-nil command)
  command_at CCompile (Some path) = ap Some (append-nil command)
  command_at Ar None = ap Some (append-nil command)
  command_at Ar (Some path) = ap Some (append-nil command)
  command_at CLink None = ap Some (append-nil command)
  command_at CLink (Some path) = ap Some (append-nil command)
  command_at Symlink None = ap Some (append-nil command)
  command_at Symlink (Some path) = ap Some (append-nil command)
  command_at Custom None = ap Some (append-nil command)
  command_at Custom (Some path) = ap Some (append-nil command)
  command_at CustomDep None = ap Some (append-nil command)
  command_at CustomDep (Some path) = ap Some (append-nil command)

command_is : (m : Manifest) (e : EdgeData) → m.rules ≡ six_rules → value_of m (edge_seen e) (codes "command") ≡ Some (words_text e.words e.redirect)
command_is m e r =
    ap (λ rules. rule_named rules (rule_text e.rule) >>= λ rule. value_at (suc (length rule.bindings)) m rule (edge_seen e) (codes "command")) r
    ∙ command_at m e.outputs e.inputs e.implicit e.order_only (words_text e.words e.redirect) e.description e.rule e.depfile

words_of : (ws : List (List ℕ)) (redirect : Option (List ℕ)) → is_some_list ws ≡ true → shell_command (words_text ws redirect) ≡ Some (record { words = ws; redirect = redirect })
words_of [] redirect h = absurd (false≢true h)
words_of (w ∷ ws) redirect h = words_again w ws redirect

-- the command of an edge is its words
pub runs_words : (m : Manifest) (e : EdgeData) → m.rules ≡ six_rules → is_writable e ≡ true → RunsWords m e
runs_words m e r h = (words_text e.words e.redirect, command_is m e r, words_of e.words e.redirect (held_of e h).has_word)

pub each_runs : (m : Manifest) (es : List EdgeData) → m.rules ≡ six_rules → are_writable es ≡ true → EachRunsWords m es
each_runs m [] r h = tt
each_runs m (e ∷ es) r h =
    let k = and_parts (is_writable e) (are_writable es) h in
    (runs_words m e r k.0, each_runs m es r k.1)
