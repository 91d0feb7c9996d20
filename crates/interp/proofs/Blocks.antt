-- The statements of blocks.
use Rattle.std.proofs.Common.{◌≡◌, ℕ, zero, suc, ◌+◌, ◌<◌, ◌≤◌, List, [], ◌∷◌, length, get_or, IsTrue, refl, sym, ap, subst, arith}
use Rattle.std.specs.Prelude.{min, nat_lt, ◌&&◌}
use Rattle.std.specs.List.{list_all}
use Rattle.code.specs.Statements.{branch_within, second_within, statement_within, all_placed}
use Rattle.code.specs.declared.code.Code.{Code}
use Rattle.code.specs.declared.node.BranchNode.{BranchNode}
use Rattle.code.specs.declared.node.StatementNode.{StatementNode}
use Rattle.code.specs.declared.node.StatementNode.TheVariants as flat
use Rattle.code.proofs.Trees.{both_true, less}
use Rattle.interp.specs.Blocks.{branch_or, part_of, statements_of}
use Rattle.interp.specs.declared.block.Block.{Block}
use Rattle.interp.specs.declared.block.Block.TheVariants as blocks

-- the statements of a branch that is there
pub branch_is : (otherwise : List ℕ) (bs : List BranchNode) (k : ℕ) (b : BranchNode) → k < length bs → branch_or otherwise bs k ≡ (get_or bs k b).body.items
branch_is otherwise [] k b l = absurd (omega arith)
branch_is otherwise (x ∷ bs) zero b l = refl
branch_is otherwise (x ∷ bs) (suc k) b l = branch_is otherwise bs k b (omega arith)

-- where there is none, those of `else`
pub no_branch : (otherwise : List ℕ) (bs : List BranchNode) (k : ℕ) → length bs ≤ k → branch_or otherwise bs k ≡ otherwise
no_branch otherwise [] k l = refl
no_branch otherwise (x ∷ bs) zero l = absurd (omega arith)
no_branch otherwise (x ∷ bs) (suc k) l = no_branch otherwise bs k (omega arith)

-- so one behind the last is that behind the last
pub branch_clamped : (otherwise : List ℕ) (bs : List BranchNode) (k n : ℕ) → n ≡ min k (length bs) → branch_or otherwise bs k ≡ branch_or otherwise bs n
branch_clamped otherwise [] k n e = refl
branch_clamped otherwise (x ∷ bs) zero n e = let z : n ≡ 0 = omega arith in ap (branch_or otherwise (x ∷ bs)) (sym z)
branch_clamped otherwise (x ∷ bs) (suc k) zero e = absurd (omega arith)
branch_clamped otherwise (x ∷ bs) (suc k) (suc n) e = branch_clamped otherwise bs k n (omega arith)

-- ---- each number of a block is one of a statement that is there

abbrev AllBelow : ℕ → List ℕ → Type 0
AllBelow n [] = Unit {0}
AllBelow n (i ∷ is) = (i < n) × AllBelow n is

abbrev BranchesBelow : ℕ → List BranchNode → Type 0
BranchesBelow n [] = Unit {0}
BranchesBelow n (b ∷ bs) = AllBelow n b.body.items × BranchesBelow n bs

list_below : (xs : List ℕ) (i n : ℕ) → i ≤ n → IsTrue (list_all (λ j. nat_lt j i) xs) → AllBelow n xs
list_below [] i n l h = tt
list_below (x ∷ xs) i n l h =
    let p = both_true (nat_lt x i) (list_all (λ j. nat_lt j i) xs) h in
    (omega (arith, less x i p.0), list_below xs i n l p.1)

branches_below : (bs : List BranchNode) (m i n : ℕ) → i ≤ n → IsTrue (list_all (branch_within m i) bs) → BranchesBelow n bs
branches_below [] m i n l h = tt
branches_below (b ∷ bs) m i n l h =
    let p = both_true (branch_within m i b) (list_all (branch_within m i) bs) h in
    let q = both_true (nat_lt b.condition m) (list_all (λ j. nat_lt j i) b.body.items) p.0 in
    (list_below b.body.items i n l q.1, branches_below bs m i n l p.1)

branch_below : (otherwise : List ℕ) (bs : List BranchNode) (k n : ℕ) → BranchesBelow n bs → AllBelow n otherwise → AllBelow n (branch_or otherwise bs k)
branch_below otherwise [] k n h g = g
branch_below otherwise (b ∷ bs) zero n h g = h.0
branch_below otherwise (b ∷ bs) (suc k) n h g = branch_below otherwise bs k n h.1 g

part_below : (k m i n part : ℕ) (node : StatementNode) → i ≤ n → IsTrue (statement_within k m i node) → AllBelow n (part_of node part)
part_below k m i n part (flat.Assign name line value) l h = tt
part_below k m i n part (flat.Append name line value) l h = tt
part_below k m i n part (flat.Expression value line) l h = tt
part_below k m i n part (flat.Break line) l h = tt
part_below k m i n part (flat.Continue line) l h = tt
part_below k m i n part (flat.If node) l h =
    let parts = node.value.branches in
    let otherwise = node.value.otherwise in
    let p = both_true (list_all (branch_within m i) parts.items) (list_all (λ j. nat_lt j i) otherwise.items) h in
    branch_below otherwise.items parts.items part n (branches_below parts.items m i n l p.0) (list_below otherwise.items i n l p.1)
part_below k m i n part (flat.Foreach node) l h =
    let first = node.value.first in
    let second = node.value.second in
    let list = node.value.list in
    let body = node.value.body in
    let p = both_true (nat_lt first k) (second_within k second && (nat_lt list m && list_all (λ j. nat_lt j i) body.items)) h in
    let q = both_true (second_within k second) (nat_lt list m && list_all (λ j. nat_lt j i) body.items) p.1 in
    let r = both_true (nat_lt list m) (list_all (λ j. nat_lt j i) body.items) q.1 in
    list_below body.items i n l r.1

part_at : (k m n bound part : ℕ) (xs : List StatementNode) (i : ℕ) → n + length xs ≤ bound → IsTrue (all_placed k m n xs) → AllBelow bound (part_of (get_or xs i (flat.Break 0)) part)
part_at k m n bound part [] i l h = tt
part_at k m n bound part (x ∷ xs) zero l h = part_below k m n bound part x (omega arith) (both_true (statement_within k m n x) (all_placed k m (n + 1) xs) h).0
part_at k m n bound part (x ∷ xs) (suc i) l h = part_at k m (n + 1) bound part xs i (omega arith) (both_true (statement_within k m n x) (all_placed k m (n + 1) xs) h).1

numbers_below : (c : Code) (b : Block) → AllBelow (length c.statements.items) (statements_of c b)
numbers_below c blocks.File = list_below c.body.items (length c.statements.items) (length c.statements.items) (omega arith) c.whole
numbers_below c (blocks.Part i part) = part_at c.names (length c.nodes.items) 0 (length c.statements.items) part c.statements.items i (omega arith) c.placed

below_at : (n : ℕ) (xs : List ℕ) (at x : ℕ) → at < length xs → AllBelow n xs → get_or xs at x < n
below_at n [] at x l h = absurd (omega arith)
below_at n (y ∷ ys) zero x l h = h.0
below_at n (y ∷ ys) (suc at) x l h = below_at n ys at x (omega arith) h.1

-- a number that stands in a block
pub number_below : (c : Code) (b : Block) (numbers : List ℕ) (at other : ℕ) → numbers ≡ statements_of c b → at < length numbers → get_or numbers at other < length c.statements.items
number_below c b numbers at other are l = below_at (length c.statements.items) numbers at other l (subst (λ ys. AllBelow (length c.statements.items) ys) (sym are) (numbers_below c b))
