-- What the Ninja manual makes of some texts, and a POSIX shell of some commands: each worked out by a person.
use Rattle.std.proofs.Common.{◌≡◌, ℕ, List, [], ◌∷◌, ◌++◌, map, Option, Some, None, codes, refl}
use Rattle.support.specs.OptionSteps.{◌>>=◌}
use Rattle.ninja.specs.Reading.{Manifest, BuildEdge, build_line, manifest_of, value_of}
use Rattle.ninja.specs.Commands.{shell_command}

abbrev value_only : List (List ℕ × List ℕ) → Option Manifest
value_only vs = Some (record { variables = vs; rules = []; edges = []; defaults = [] })

abbrev edge_only : BuildEdge → Option Manifest
edge_only e = Some (record { variables = []; rules = []; edges = e ∷ []; defaults = [] })

continued : manifest_of (codes "x = a$" ++ 10 ∷ codes "   b c ") ≡ value_only ((codes "x", codes "ab c ") ∷ [])
continued = refl

expanded : manifest_of (codes "x = 1" ++ 10 ∷ codes "y =   ${x}2$x$$$:$ ") ≡ value_only ((codes "x", codes "1") ∷ (codes "y", codes "121$: ") ∷ [])
expanded = refl

edges : manifest_of (codes "build =x a$ b$:c | i: r =y | z1 z2||w" ++ 10 ∷ codes "  v = $$w")
    ≡ edge_only (record { outputs = codes "=x" ∷ codes "a b:c" ∷ []; implicit_outputs = codes "i" ∷ []; rule = codes "r"; inputs = codes "=y" ∷ []; implicit = codes "z1" ∷ codes "z2" ∷ []; order_only = codes "w" ∷ []; bindings = (codes "v", codes "$w") ∷ [] })
unfolding build_line
edges = refl

-- the paths of a `build` line see what its block says
own_values : manifest_of (codes "d = a" ++ 10 ∷ codes "build $d/x: r $d/y" ++ 10 ∷ codes " e = $d" ++ 10 ∷ codes " d = b")
    ≡ Some (record { variables = (codes "d", codes "a") ∷ []; rules = []; edges = record { outputs = codes "b/x" ∷ []; implicit_outputs = []; rule = codes "r"; inputs = codes "b/y" ∷ []; implicit = []; order_only = []; bindings = (codes "e", codes "a") ∷ (codes "d", codes "b") ∷ [] } ∷ []; defaults = [] })
unfolding build_line
own_values = refl

-- what `command` stands for at each edge
abbrev commands : Manifest → List (Option (List ℕ))
commands m = map (λ e. value_of m e (codes "command")) m.edges

-- the manual's example of scopes: the file's value, and the block's before it
scopes : (manifest_of (codes "cflags = -Wall -Werror" ++ 10 ∷ codes "rule cc" ++ 10 ∷ codes "  command = gcc $cflags" ++ 10 ∷ codes "build foo.o: cc foo.c" ++ 10 ∷ codes "build special.o: cc special.c" ++ 10 ∷ codes "  cflags = -Wall") >>= λ m. Some (commands m))
    ≡ Some (Some (codes "gcc -Wall -Werror") ∷ Some (codes "gcc -Wall") ∷ [])
unfolding build_line
scopes = refl

-- a keyword is no name
no_keyword_rule : manifest_of (codes "rule build") ≡ None
no_keyword_rule = refl

no_keyword_edge : manifest_of (codes "build x: pool y") ≡ None
unfolding build_line
no_keyword_edge = refl

no_keyword_variable : manifest_of (codes "subninja = x") ≡ None
no_keyword_variable = refl

no_keyword_in_block : manifest_of (codes "rule r" ++ 10 ∷ codes " include = x") ≡ None
no_keyword_in_block = refl

-- what is read by others isn't read here
no_include : manifest_of (codes "include x") ≡ None
no_include = refl

no_comment : manifest_of (codes "# x = 1") ≡ None
no_comment = refl

no_build_variable : manifest_of (codes "build = x") ≡ None
unfolding build_line
no_build_variable = refl

no_output : manifest_of (codes "build : r x") ≡ None
unfolding build_line
no_output = refl

no_default : manifest_of (codes "default ") ≡ None
no_default = refl

no_block : manifest_of (codes "x = 1" ++ 10 ∷ codes " y = 2") ≡ None
no_block = refl

no_dollar : manifest_of (codes "x = $") ≡ None
no_dollar = refl

no_escape : manifest_of (codes "x = $%") ≡ None
no_escape = refl

words : shell_command (codes "a\"b c\"'d $' > e") ≡ Some (record { words = (codes "ab cd $") ∷ []; redirect = Some (codes "e") })
words = refl

no_assignment : shell_command (codes "A=b x") ≡ None
no_assignment = refl

no_quoted_assignment : shell_command (codes "A='b' x") ≡ None
no_quoted_assignment = refl

later_assignment : shell_command (codes "x A=b") ≡ Some (record { words = codes "x" ∷ codes "A=b" ∷ []; redirect = None })
later_assignment = refl

no_reserved : shell_command (codes "if x") ≡ None
no_reserved = refl

quoted_reserved : shell_command (codes "'if' if") ≡ Some (record { words = codes "if" ∷ codes "if" ∷ []; redirect = None })
quoted_reserved = refl

no_pattern : shell_command (codes "a *.c") ≡ None
no_pattern = refl

no_second_command : shell_command (codes "a;b") ≡ None
no_second_command = refl

no_variable : shell_command (codes "a $x") ≡ None
no_variable = refl

no_double_variable : shell_command (codes "a \"$x\"") ≡ None
no_double_variable = refl

no_early_redirect : shell_command (codes "a > b c") ≡ None
no_early_redirect = refl
