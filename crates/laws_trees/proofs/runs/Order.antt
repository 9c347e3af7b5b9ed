-- The order of constraints is strict.
use Rattle.std.proofs.Common.{◌≡◌, ◌⊎◌, ℕ, ◌==◌, Bool, true, ◌&&◌, refl, sym, ap, ◌∙◌, subst, inl, inr, arith, eqb-true, eq-eqb, ltb-true, nat_lt, int_cmp, int_eq, is_lt, is_eq, IsTrue, ℤ, Ordering, Less}
use Rattle.std.proofs.lemmas.Bool.{and_parts, and_from, or_cases, or_left, or_right, false≢true}
use Rattle.std.proofs.lemmas.Bool.Decides.{Decides-int_eq}
use Rattle.std.specs.Cmp.{int_cmp_total}
use Rattle.std.proofs.lemmas.Grind.{common_steps}
use Rattle.model.specs.sites.Sites.{Constraint, is_variant, is_struct, is_bool, is_int, is_prim}
use Rattle.model.specs.trees.Sound.{form, or_later, comes_before}

-- what a difference later on adds to an order by what stands first
later_chain : (l s t l' s' t' l'' s'' t'' : Bool)
    → (l ≡ true → l' ≡ true → l'' ≡ true) → (l ≡ true → s' ≡ true → l'' ≡ true) → (s ≡ true → l' ≡ true → l'' ≡ true)
    → (s ≡ true → s' ≡ true → s'' ≡ true) → (t ≡ true → t' ≡ true → t'' ≡ true)
    → or_later l s t ≡ true → or_later l' s' t' ≡ true → or_later l'' s'' t'' ≡ true
later_chain l s t l' s' t' l'' s'' t'' ll ls sl ss tt' h k = grind (arith, common_steps, or_cases, or_left, and_parts, or_right, and_from)

pub below_chain : (a b c : ℕ) → nat_lt a b ≡ true → nat_lt b c ≡ true → nat_lt a c ≡ true
below_chain a b c h k = grind (arith, common_steps)

below_same : (a b c : ℕ) → nat_lt a b ≡ true → (b == c) ≡ true → nat_lt a c ≡ true
below_same a b c h k = subst (λ x. nat_lt a x ≡ true) (eqb-true b c k) h

same_below : (a b c : ℕ) → (a == b) ≡ true → nat_lt b c ≡ true → nat_lt a c ≡ true
same_below a b c h k = subst (λ x. nat_lt x c ≡ true) (sym (eqb-true a b h)) k

same_chain : (a b c : ℕ) → (a == b) ≡ true → (b == c) ≡ true → (a == c) ≡ true
same_chain a b c h k = eq-eqb a c (eqb-true a b h ∙ eqb-true b c k)

is_less : (o : Ordering) → is_lt o ≡ true → o ≡ Less
is_less o h = grind (arith, common_steps)

int_below_chain : (a b c : ℤ) → is_lt (int_cmp a b) ≡ true → is_lt (int_cmp b c) ≡ true → is_lt (int_cmp a c) ≡ true
int_below_chain a b c h k = ap is_lt (int_cmp_total.trans a b c (is_less (int_cmp a b) h) (is_less (int_cmp b c) k))

int_below_same : (a b c : ℤ) → is_lt (int_cmp a b) ≡ true → int_eq b c ≡ true → is_lt (int_cmp a c) ≡ true
int_below_same a b c h k = subst (λ x. is_lt (int_cmp a x) ≡ true) ((Decides-int_eq b c).0 k) h

int_same_below : (a b c : ℤ) → int_eq a b ≡ true → is_lt (int_cmp b c) ≡ true → is_lt (int_cmp a c) ≡ true
int_same_below a b c h k = subst (λ x. is_lt (int_cmp x c) ≡ true) (sym ((Decides-int_eq a b).0 h)) k

int_same_chain : (a b c : ℤ) → int_eq a b ≡ true → int_eq b c ≡ true → int_eq a c ≡ true
int_same_chain a b c h k = (Decides-int_eq a c).1 ((Decides-int_eq a b).0 h ∙ (Decides-int_eq b c).0 k)

int_not_below : (a : ℤ) → is_lt (int_cmp a a) ≡ true → ⊥
int_not_below a h = false≢true (ap is_eq (sym (is_less (int_cmp a a) h)) ∙ (Decides-int_eq a a).1 refl)

-- of different forms, the one of the lower form comes first
form_first : (c d : Constraint) → nat_lt (form c) (form d) ≡ true → comes_before c d ≡ true
form_first c d h = grind (arith, common_steps)

-- what comes first has no higher form
form_within : (c d : Constraint) → comes_before c d ≡ true → (nat_lt (form c) (form d) ≡ true) ⊎ (form c ≡ form d)
form_within c d h = grind (arith, common_steps)

-- the order of constraints of one form
same_form_chain : (c d e : Constraint) → form c ≡ form d → form d ≡ form e → IsTrue (comes_before c d) → IsTrue (comes_before d e) → IsTrue (comes_before c e)
same_form_chain (is_variant s i n) (is_variant t j m) (is_variant u k l) x y h g =
    later_chain (nat_lt s t) (s == t) (or_later (nat_lt i j) (i == j) (nat_lt n m)) (nat_lt t u) (t == u) (or_later (nat_lt j k) (j == k) (nat_lt m l)) (nat_lt s u) (s == u) (or_later (nat_lt i k) (i == k) (nat_lt n l))
    (below_chain s t u) (below_same s t u) (same_below s t u) (same_chain s t u)
    (later_chain (nat_lt i j) (i == j) (nat_lt n m) (nat_lt j k) (j == k) (nat_lt m l) (nat_lt i k) (i == k) (nat_lt n l) (below_chain i j k) (below_same i j k) (same_below i j k) (same_chain i j k) (below_chain n m l)) h g
same_form_chain (is_struct s n) (is_struct t m) (is_struct u l) x y h g = grind (arith, common_steps, later_chain, below_chain, below_same, same_below, same_chain)
same_form_chain (is_bool a s) (is_bool b t) (is_bool c u) x y h k = grind (arith, common_steps, later_chain, below_chain, below_same, same_below, same_chain)
same_form_chain (is_int a s) (is_int b t) (is_int c u) x y h k =
    later_chain (is_lt (int_cmp a b)) (int_eq a b) (nat_lt s t) (is_lt (int_cmp b c)) (int_eq b c) (nat_lt t u) (is_lt (int_cmp a c)) (int_eq a c) (nat_lt s u)
    (int_below_chain a b c) (int_below_same a b c) (int_same_below a b c) (int_same_chain a b c) (below_chain s t u) h k
same_form_chain (is_prim a) (is_prim b) (is_prim c) x y h k = below_chain a b c h k
same_form_chain c d e x y h k = first_of (cc, grind arith)

pub before_chain : (c d e : Constraint) → IsTrue (comes_before c d) → IsTrue (comes_before d e) → IsTrue (comes_before c e)
before_chain c d e h k = by (form_within c d h) (form_within d e k)
  where
    by : (nat_lt (form c) (form d) ≡ true) ⊎ (form c ≡ form d) → (nat_lt (form d) (form e) ≡ true) ⊎ (form d ≡ form e) → comes_before c e ≡ true
    by (inl a) (inl b) = form_first c e (below_chain (form c) (form d) (form e) a b)
    by (inl a) (inr b) = form_first c e (subst (λ n. nat_lt (form c) n ≡ true) b a)
    by (inr a) (inl b) = form_first c e (subst (λ n. nat_lt n (form e) ≡ true) (sym a) b)
    by (inr a) (inr b) = same_form_chain c d e a b h k

pub not_below : (n : ℕ) → nat_lt n n ≡ true → ⊥
not_below n h = (let q = ltb-true n n h in omega arith)

not_later : (l s t : Bool) → (l ≡ true → ⊥) → (t ≡ true → ⊥) → or_later l s t ≡ true → ⊥
not_later l s t f g h = elim (or_cases l (s && t) h) [ inl a ↦ f a | inr b ↦ g (and_parts s t b).1 ]

pub before_itself : (c : Constraint) → IsTrue (comes_before c c) → ⊥
before_itself c h = grind (arith, common_steps, not_later, not_below, int_not_below)
