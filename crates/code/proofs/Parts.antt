-- Parts of nodes stay what they are as trees are put behind the others.
use Rattle.std.proofs.Common.{◌≡◌, ℕ, ◌+◌, ◌<◌, ◌≤◌, Bool, true, List, [], ◌∷◌, ◌++◌, length, map, take, get_or, append-nil, append_assoc}
use Rattle.std.proofs.Common.{refl, sym, ap, subst, ◌∙◌, arith}
use Rattle.std.specs.Prelude.{nat_lt, ◌&&◌, IsTrue}
use Rattle.std.specs.List.{list_all}
use Rattle.std.proofs.lemmas.List.{map_push, take_all}
use Rattle.std.proofs.lemmas.Grind.{common_steps}
use Rattle.std.proofs.lemmas.List.Folds.{list_all-append}
use Rattle.syntax.specs.ExpressionTree.{ExpressionTree, NameTree, MethodTree, IndexTree, arguments}
use Rattle.code.specs.Nodes.{tree_at, entry_at, argument_at, operand_at, link_at, entry_within, argument_within, operand_within}
use Rattle.code.specs.Nodes.{link_within}
use Rattle.code.specs.Draft.{IsFront, Stands, Parts, Grows, trees_in}
use Rattle.code.specs.declared.draft.Draft.{Draft}
use Rattle.code.specs.declared.node.LinkNode.{LinkNode}
use Rattle.code.specs.declared.node.LinkNode.TheVariants.{Method, Index}
use Rattle.code.proofs.Trees.{both_true, and_both, less, is_less, at_front, length_begins}

pub begins_same : {A : Type 0} (old new : List A) → new ≡ old → IsFront old new
begins_same old new e = record { more = []; is = e ∙ sym (append-nil old) }

pub begins_trans : {A : Type 0} (x y z : List A) → IsFront x y → IsFront y z → IsFront x z
begins_trans x y z p q = record { more = p.more ++ q.more; is = q.is ∙ ap (λ l. l ++ q.more) p.is ∙ append_assoc x p.more q.more }

pub grows_same : (d : Draft) → Grows d d
grows_same d = record { names = begins_same d.names d.names refl; trees = begins_same (trees_in d) (trees_in d) refl }

pub grows_trans : (a b c : Draft) → Grows a b → Grows b c → Grows a c
grows_trans a b c p q = record {
  names = begins_trans a.names b.names c.names p.names q.names;
  trees = begins_trans (trees_in a)
      (trees_in b) (trees_in c) p.trees q.trees;
}

-- a part that is there stays so, and keeps its tree
pub record Keeps {N T : Type 0} (test : ℕ → N → Bool) (at : List ExpressionTree → N → T) : Type 0 where
  pub wider : (m n : ℕ) (x : N) → m ≤ n → IsTrue (test m x) → IsTrue (test n x)
  pub same : (ts more : List ExpressionTree) (x : N) → IsTrue (test (length ts) x) → at (ts ++ more) x ≡ at ts x

pub lt_wider : (i m n : ℕ) → m ≤ n → IsTrue (nat_lt i m) → IsTrue (nat_lt i n)
lt_wider i m n l h = is_less i n (let g = less i m h in omega arith)

pub tree_same : (ts more : List ExpressionTree) (i : ℕ) → IsTrue (nat_lt i (length ts)) → tree_at (ts ++ more) i ≡ tree_at ts i
tree_same ts more i h = at_front ts more i (NameTree [] 0) (less i (length ts) h)

pub keeps_number : Keeps (λ n i. nat_lt i n) tree_at
keeps_number = record { wider = λ m n x l h. lt_wider x m n l h; same = λ ts more x h. tree_same ts more x h }

pub keeps_entry : Keeps entry_within entry_at
keeps_entry = record {
  wider = λ m n x l h. let p = both_true (nat_lt x.key m) (nat_lt x.value m) h in and_both (nat_lt x.key n) (nat_lt x.value n)
      (lt_wider x.key m n l p.0) (lt_wider x.value m n l p.1);
  same = λ ts more x h.
      let p = both_true (nat_lt x.key (length ts)) (nat_lt x.value (length ts)) h in
      ap (λ t. (t, tree_at (ts ++ more) x.value)) (tree_same ts more x.key p.0)
      ∙ ap (λ t. (tree_at ts x.key, t)) (tree_same ts more x.value p.1);
}

pub keeps_argument : Keeps argument_within argument_at
keeps_argument = record {
  wider = λ m n x l h. lt_wider x.value m n l h;
  same = λ ts more x h. ap (λ t. (x.name, t)) (tree_same ts more x.value h);
}

pub keeps_operand : Keeps operand_within operand_at
keeps_operand = record {
  wider = λ m n x l h. lt_wider x.value m n l h;
  same = λ ts more x h. ap (λ t. (x.operator, t)) (tree_same ts more x.value h);
}

module _ {N T : Type 0} (test : ℕ → N → Bool) (at : List ExpressionTree → N → T) (keeps : Keeps test at) where
  pub all_wider : (m n : ℕ) (xs : List N) → m ≤ n → IsTrue (list_all (test m) xs) → IsTrue (list_all (test n) xs)
  all_wider m n [] l h = h
  all_wider m n (x ∷ xs) l h =
      let p = both_true (test m x) (list_all (test m) xs) h in
      and_both (test n x) (list_all (test n) xs) (keeps.wider m n x l p.0) (all_wider m n xs l p.1)

  pub all_same : (ts more : List ExpressionTree) (xs : List N) → IsTrue (list_all (test (length ts)) xs) → map (at (ts ++ more)) xs
      ≡ map (at ts) xs
  all_same ts more [] h = refl
  all_same ts more (x ∷ xs) h =
      let p = both_true (test (length ts) x) (list_all (test (length ts)) xs) h in
      ap (λ t. t ∷ map (at (ts ++ more)) xs) (keeps.same ts more x p.0) ∙ ap (λ l. at ts x ∷ l) (all_same ts more xs p.1)

  pub parts_more : (ts us : List ExpressionTree) (xs : List N) (wanted : List T) → IsFront ts us → Parts test at ts xs wanted
      → Parts test at us xs wanted
  parts_more ts us xs wanted b p = record {
    within = all_wider (length ts) (length us) xs (length_begins ts us b) p.within;
    are = ap (λ l. map (at l) xs) b.is ∙ all_same ts b.more xs p.within ∙ p.are;
  }

  pub parts_push : (ts us : List ExpressionTree) (xs : List N) (wanted : List T) (x : N) (t : T) → IsFront ts us
      → Parts test at ts xs wanted → IsTrue (test (length us) x) → at us x ≡ t → Parts test at us (xs ++ x ∷ []) (wanted ++ t ∷ [])
  parts_push ts us xs wanted x t b p h e =
      let q = parts_more ts us xs wanted b p in
      record {
        within = subst IsTrue (sym (list_all-append (test (length us)) xs (x ∷ [])))
            (and_both (list_all (test (length us)) xs) (test (length us) x && true) q.within (and_both (test (length us) x) true h refl));
        are = map_push (at us) xs x ∙ ap (λ l. l ++ at us x ∷ []) q.are ∙ ap (λ y. wanted ++ y ∷ []) e;
      }

all_links_wider : (m n : ℕ) (x : LinkNode) → m ≤ n → IsTrue (link_within m x) → IsTrue (link_within n x)
all_links_wider m n (Method name items) l h = all_wider argument_within argument_at keeps_argument m n items.items l h
all_links_wider m n (Index i) l h = lt_wider i m n l h

link_same : (ts more : List ExpressionTree) (x : LinkNode) → IsTrue (link_within (length ts) x) → link_at (ts ++ more) x ≡ link_at ts x
link_same ts more (Method name items) h = ap (λ l. MethodTree name (arguments l))
    (all_same argument_within argument_at keeps_argument ts more items.items h)
link_same ts more (Index i) h = ap IndexTree (tree_same ts more i h)

pub keeps_link : Keeps link_within link_at
keeps_link = record { wider = all_links_wider; same = link_same }

-- one more of what is wanted
pub wanted_more : {A T : Type 0} (f : A → T) (xs : List A) (i : ℕ) (x : A) → i < length xs → x ≡ get_or xs i x
    → map f (take (i + 1) xs) ≡ map f (take i xs) ++ f x ∷ []
wanted_more f xs i x l e = ap (map f) (grind (arith, common_steps)) ∙ map_push f (take i xs) x

pub stands_more : (ts us : List ExpressionTree) (i : ℕ) (t : ExpressionTree) → IsFront ts us → Stands ts i t → Stands us i t
stands_more ts us i t b s = record {
  within = lt_wider i (length ts) (length us) (length_begins ts us b) s.within;
  is = ap (λ l. tree_at l i) b.is ∙ tree_same ts b.more i s.within ∙ s.is;
}

module _ {A N T : Type 0} (test : ℕ → N → Bool) (at : List ExpressionTree → N → T) (keeps : Keeps test at) (f : A → T) where
  -- one round of a loop over what is wanted
  pub parts_step : (xs : List A) (i : ℕ) (a : A) (ts us : List ExpressionTree) (parts new : List N) (x : N) → i < length xs → a
      ≡ get_or xs i a → new ≡ parts ++ x ∷ [] → IsFront ts us → Parts test at ts parts (map f (take i xs))
      → IsTrue (test (length us) x) → at us x ≡ f a → Parts test at us new (map f (take (i + 1) xs))
  parts_step xs i a ts us parts new x l is e b p h t =
      let q = parts_push test at keeps ts us parts (map f (take i xs)) x (f a) b p h t in
      let made : map f (take (i + 1) xs) ≡ map f (take i xs) ++ f a ∷ [] = wanted_more f xs i a l is in
      subst (λ w. Parts test at us new w) (sym made) (subst (λ l. Parts test at us l (map f (take i xs) ++ f a ∷ [])) (sym e) q)

  -- and its end
  pub parts_end : (xs : List A) (i : ℕ) (ts : List ExpressionTree) (parts : List N) → length xs ≤ i
      → Parts test at ts parts (map f (take i xs)) → Parts test at ts parts (map f xs)
  parts_end xs i ts parts l p = subst (λ (ys : List A). Parts test at ts parts (map f ys)) (take_all i xs l) p
