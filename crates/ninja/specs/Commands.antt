-- Defines the words of a command, as a POSIX shell reads them.
use Prim.Native.Char.{code}
use Rattle.std.specs.Prelude.{ℕ, Bool, cond, ◌==◌, ◌||◌, List, [], ◌∷◌, ◌++◌, Option, Some, None}
use Rattle.ninja.specs.Machine.{Machine, output_from}
use Rattle.ninja.specs.Posix.{is_literal, is_no_command_name}
use Rattle.support.specs.OptionSteps.{◌>>=◌}

-- A part of a command: a word, or the sign `>`.
pub data ShellToken : Type 0 where
  -- A word: its bytes outside quotes, and all of its bytes.
  Word : (bare text : List ℕ) → ShellToken
  -- The sign `>`, with the file that receives the output after it.
  Redirect : ShellToken

-- The state of a shell that reads a command: between words, in a word and its quotes, or after a `>`. `Unread` is a text that no command
-- has.
pub data Quoting : Type 0 where
  -- No word is open.
  BetweenWords : Quoting
  -- A word is open, outside quotes: its bytes outside quotes so far, and all of its bytes so far.
  Bare : (bare text : List ℕ) → Quoting
  -- A word is open, in single quotes.
  Single : (bare text : List ℕ) → Quoting
  -- A word is open, in double quotes.
  Double : (bare text : List ℕ) → Quoting
  -- A `>` was read.
  Arrow : Quoting
  -- A byte was read that no command has in its place.
  Unread : Quoting

-- Returns whether the byte has a meaning in double quotes: `$`, the backquote, the backslash.
abbrev pub is_special_in_double : ℕ → Bool
is_special_in_double b = (b == code "$") || ((b == code "`") || (b == code "\\"))

-- Returns the state after a byte between words.
abbrev pub next_between : ℕ → Quoting
next_between b = cond (b == code " ") BetweenWords
    (cond (b == code "'") (Single [] []) (cond (b == code "\"") (Double [] [])
    (cond (b == code ">") Arrow (cond (is_literal b) (Bare (b ∷ []) (b ∷ [])) Unread))))

-- Returns the state after a byte.
abbrev pub next_quoting : Quoting → ℕ → Quoting
next_quoting BetweenWords b = next_between b
next_quoting (Bare bare text) b = cond (b == code " ") BetweenWords
    (cond (b == code "'") (Single bare text)
    (cond (b == code "\"") (Double bare text) (cond (is_literal b) (Bare (bare ++ b ∷ []) (text ++ b ∷ [])) Unread)))
next_quoting (Single bare text) b = cond (b == code "'") (Bare bare text) (Single bare (text ++ b ∷ []))
next_quoting (Double bare text) b = cond (b == code "\"") (Bare bare text) (cond (is_special_in_double b) Unread (Double bare (text ++ b ∷ [])))
next_quoting Arrow b = cond (b == code " ") BetweenWords Unread
next_quoting Unread b = Unread

-- Returns the tokens that a byte completes.
abbrev pub words_given : Quoting → ℕ → List ShellToken
words_given BetweenWords b = []
words_given (Bare bare text) b = cond (b == code " ") (Word bare text ∷ []) []
words_given (Single bare text) b = []
words_given (Double bare text) b = []
words_given Arrow b = cond (b == code " ") (Redirect ∷ []) []
words_given Unread b = []

-- Returns the token that the end of the text completes, or `None` if no command ends here.
abbrev pub words_at_end : Quoting → Option (List ShellToken)
words_at_end BetweenWords = Some []
words_at_end (Bare bare text) = Some (Word bare text ∷ [])
words_at_end (Single bare text) = None
words_at_end (Double bare text) = None
words_at_end Arrow = None
words_at_end Unread = None

-- Reads the bytes of a command as tokens.
abbrev pub shell : Machine Quoting ℕ ShellToken
shell = record { next = next_quoting; gives = words_given; ends = words_at_end }

-- The words of a command, and the file that receives its output.
pub record Command : Type 0 where
  pub words : List (List ℕ)
  pub redirect : Option (List ℕ)

-- Returns the command with a word before its own.
abbrev pub with_word : List ℕ → Option Command → Option Command
with_word word (Some c) = Some (record { words = word ∷ c.words; redirect = c.redirect })
with_word word None = None

-- Returns the command of these tokens: words, optionally followed by `>` and one more.
abbrev pub command_of : List ShellToken → Option Command
command_of [] = Some (record { words = []; redirect = None })
command_of (Word bare text ∷ ts) = with_word text (command_of ts)
command_of (Redirect ∷ Word bare text ∷ []) = Some (record { words = []; redirect = Some text })
command_of (Redirect ∷ _) = None

-- Returns the command of these tokens, if the first word may be the name of a command.
abbrev pub command_from : List ShellToken → Option Command
command_from [] = None
command_from (Word bare text ∷ ts) = cond (is_no_command_name bare) None (command_of (Word bare text ∷ ts))
command_from (Redirect ∷ ts) = None

-- Returns the command that a text spells, if it spells one.
abbrev pub shell_command : List ℕ → Option Command
shell_command text = output_from shell BetweenWords text >>= command_from
