-- A well-formed type environment shows types that can be read: the name of each type is that of its one number, and the
-- constants are those that its look-up answers.
use Rattle.std.proofs.Common.{◌≡◌, ◌==◌, ℕ, zero, suc, ◌+◌, ◌<◌, true, false, if◌then◌else◌, List, [], ◌∷◌, length, Option, Some, None, unwrap_or, slice_get, IsTrue, All, refl, sym, ap, ◌∙◌, subst, inl, inr, arith, eq-eqb, eqb-true}
use Rattle.std.proofs.lemmas.Grind.{common_steps}
use Rattle.std.proofs.lemmas.Bool.{cases_Bool, cond-true, cond-false, false≢true}
use Rattle.std.proofs.lemmas.Option.{same_Some, none-some, slice_get_within}
use Rattle.std.specs.List.{enumerate_from}
use Rattle.model.specs.lists.Names.{number, has_name, IsDistinct}
use Rattle.model.specs.lists.Tables.{TypeEntry}
use Rattle.model.specs.lists.Signatures.{text_of}
use Rattle.model.specs.rules.Meaning.{look}
use Rattle.model.specs.claims.Environments.{TypesRead, AreReadable, AnswersBy, numbered, TypeEnvironment, IsReadAs}
use Rattle.model.specs.claims.Questions.{IsWellFormedEnvironment}
use Rattle.model.proofs.Elements.{In, in_from_contains, in_map, map_in}
use Rattle.model.proofs.Members.{get_from_member, get_within, all_members}
use Rattle.model.proofs.Names.{has_at}
use Rattle.laws_typing.proofs.TermLaws.{number_back}
use Rattle.laws_typing.proofs.VariantTerms.{looked_up}
use Rattle.model.specs.lists.Formed.{is_type}
use Rattle.laws_typing.proofs.FormedParts.{type_is}

-- 1. look-ups as lists
not_looked_up : (es : List (ℕ × ℕ)) (k : ℕ) → ((v : ℕ) → In es (k, v) → ⊥) → look (λ n. n == k) es ≡ None
not_looked_up [] k f = refl
not_looked_up (e ∷ es) k f = grind (arith, not_looked_up es k (λ v i. f v (inr i)), e.0, f e.1, e.1)

answers_by : (f : ℕ → Option ℕ) (es : List (ℕ × ℕ)) → ((k v : ℕ) → In es (k, v) → f k ≡ Some v) → ((k v : ℕ) → f k ≡ Some v → In es (k, v)) → AnswersBy f es
answers_by f es a b k = of (f k) refl
  where
    of : (o : Option ℕ) → f k ≡ o → f k ≡ look (λ n. n == k) es
    of None e = e ∙ sym (not_looked_up es k (λ v i. none-some v (sym e ∙ a k v i)))
    of (Some v) e = e ∙ sym (looked_up es k v (b k v e) (λ w i. same_Some w v (sym (a k w i) ∙ e)))

-- what a look-up answers below a number
entries_below : (ℕ → Option ℕ) → ℕ → List (ℕ × ℕ)
entries_below f zero = []
entries_below f (suc n) = elim (f n) [ None ↦ entries_below f n | Some v ↦ (n, v) ∷ entries_below f n ]

entry_answered : (f : ℕ → Option ℕ) (n : ℕ) (e : ℕ × ℕ) → In (entries_below f n) e → f e.0 ≡ Some e.1
unfolding entries_below
entry_answered f zero e i = absurd i
entry_answered f (suc n) e i = of (f n) refl (entry_answered f n e) i
  where
    of : (o : Option ℕ) → f n ≡ o → (In (entries_below f n) e → f e.0 ≡ Some e.1) → In (elim o as (λ _. List (ℕ × ℕ)) [ None ↦ entries_below f n | Some v ↦ (n, v) ∷ entries_below f n ]) e → f e.0 ≡ Some e.1
    of o q before j = grind (arith, common_steps)

answered_entry : (f : ℕ → Option ℕ) (n k v : ℕ) → k < n → f k ≡ Some v → In (entries_below f n) (k, v)
unfolding entries_below
answered_entry f zero k v l e = absurd (omega (arith, l))
answered_entry f (suc n) k v l e =
    elim (cases_Bool (n == k)) [
      | inl t ↦ let same = eqb-true n k t in last (f n) (ap f same ∙ e) same
      | inr d ↦ later (f n) (answered_entry f n k v (smaller d) e)
    ]
  where
    last : (o : Option ℕ) → o ≡ Some v → n ≡ k → In (elim o as (λ _. List (ℕ × ℕ)) [ None ↦ entries_below f n | Some w ↦ (n, w) ∷ entries_below f n ]) (k, v)
    last None q s = absurd (none-some v q)
    last (Some w) q s = inl (λ j. (s j, same_Some w v q j))

    later : (o : Option ℕ) → In (entries_below f n) (k, v) → In (elim o as (λ _. List (ℕ × ℕ)) [ None ↦ entries_below f n | Some w ↦ (n, w) ∷ entries_below f n ]) (k, v)
    later None i = i
    later (Some w) i = inr i

    smaller : (n == k) ≡ false → k < n
    smaller d = let no : n ≡ k → ⊥ = λ s. false≢true (sym d ∙ eq-eqb n k s) in omega (arith, l, no)

-- 2. names of types
is_type_of : (o : Option ℕ) (ty : ℕ) → o ≡ Some ty → is_type o ty ≡ true
is_type_of o ty h = grind (arith, common_steps, none-some, eq-eqb, same_Some)

-- the greatest number below n that a look-up answers with a type
key_of : (ℕ → Option ℕ) → ℕ → ℕ → ℕ
key_of f ty zero = 0
key_of f ty (suc n) = if is_type (f n) ty then n else key_of f ty n

key_found : (f : ℕ → Option ℕ) (ty n k : ℕ) → f k ≡ Some ty → k < n → ((j : ℕ) → f j ≡ Some ty → j ≡ k) → key_of f ty n ≡ k
unfolding key_of
key_found f ty zero k e l only = absurd (omega (arith, l))
key_found f ty (suc n) k e l only =
    elim (cases_Bool (is_type (f n) ty)) [
      | inl t ↦ cond-true (is_type (f n) ty) n (key_of f ty n) t ∙ only n (type_is (f n) ty t)
      | inr d ↦
          let no : n ≡ k → ⊥ = λ s. false≢true (sym d ∙ is_type_of (f n) ty (ap f s ∙ e)) in
          cond-false (is_type (f n) ty) n (key_of f ty n) d ∙ key_found f ty n k e (omega (arith, l, no)) only
    ]

pub in_enumerated : {X : Type 0} (i m : ℕ) (xs : List X) (e : ℕ × X) → In (enumerate_from i xs) e → (j : ℕ) × (e.0 ≡ i + j) × (slice_get xs j ≡ Some e.1)
in_enumerated i m [] e n = absurd n
in_enumerated i m (x ∷ xs) e (inl s) = (0, let q : i ≡ e.0 = ap (λ (y : ℕ × _). y.0) s in omega (arith, q), ap Some (ap (λ (y : ℕ × _). y.1) s))
in_enumerated i m (x ∷ xs) e (inr n) = let r = in_enumerated (i + 1) m xs e n in (suc r.0, let q = r.1 in omega (arith, q), r.2)

pub enumerated_in : {X : Type 0} (i j m : ℕ) (xs : List X) (x : X) → i + j ≡ m → slice_get xs j ≡ Some x → In (enumerate_from i xs) (m, x)
enumerated_in i j m [] x s e = absurd (cc)
enumerated_in i zero m (y ∷ xs) x s e = inl (let q : i ≡ m = omega (arith, s) in (λ k. (q k, same_Some y x e k)))
enumerated_in i (suc j) m (y ∷ xs) x s e = inr (enumerated_in (i + 1) j m xs x (omega (arith, s)) e)

module _ (env : TypeEnvironment) (h : IsWellFormedEnvironment env) where
  once : IsDistinct env.names
  once j k x e f = same_Some j k (sym (h.inverse.numbered x j e) ∙ h.inverse.numbered x k f)

  names_by : ℕ → List TypeEntry → List (List ℕ)
  names_by i [] = []
  names_by i (t ∷ ts) = text_of env.names (key_of env.type_of i (length env.names)) ∷ names_by (suc i) ts

  as_many : (i : ℕ) (ts : List TypeEntry) → length (names_by i ts) ≡ length ts
  unfolding names_by
  as_many i [] = refl
  as_many i (t ∷ ts) = ap suc (as_many (suc i) ts)

  name_by : (i j m : ℕ) (ts : List TypeEntry) → i + j ≡ m → j < length ts → slice_get (names_by i ts) j ≡ Some (text_of env.names (key_of env.type_of m (length env.names)))
  unfolding names_by
  name_by i j m [] s l = absurd (omega (arith, l))
  name_by i zero m (t ∷ ts) s l = let q : i ≡ m = omega (arith, s) in ap (λ n. Some (text_of env.names (key_of env.type_of n (length env.names)))) q
  name_by i (suc j) m (t ∷ ts) s l = name_by (suc i) j m ts (omega (arith, s)) (omega (arith, l))

  -- the name of a type stands at its one number
  record IsNamed (ty : ℕ) (x : List ℕ) : Type 0 where
    key : ℕ
    of_type : env.type_of key ≡ Some ty
    only : (k : ℕ) → env.type_of k ≡ Some ty → k ≡ key
    at_key : slice_get env.names key ≡ Some x
    listed : slice_get (names_by 0 env.types) ty ≡ Some x

  type_named : (ty : ℕ) → ty < length env.types → (x : List ℕ) × IsNamed ty x
  type_named ty l =
      let one = h.one_number ty l in
      let known = get_within env.names one.number (h.type_names one.number ty one.of_type).0 in
      let key = key_found env.type_of ty (length env.names) one.number one.of_type (h.type_names one.number ty one.of_type).0 one.only in
      let text : text_of env.names (key_of env.type_of ty (length env.names)) ≡ known.0 = ap (text_of env.names) key ∙ ap (λ o. unwrap_or o []) known.1 in (
        known.0,
        record {
          key = one.number;
          of_type = one.of_type;
          only = one.only;
          at_key = known.1;
          listed = name_by 0 ty ty env.types (omega arith) l ∙ ap Some text;
        },
      )

  listed_named : (ty : ℕ) (x : List ℕ) → slice_get (names_by 0 env.types) ty ≡ Some x → IsNamed ty x
  listed_named ty x e =
      let n = as_many 0 env.types in
      let within = slice_get_within (names_by 0 env.types) ty x e in
      let r = type_named ty (omega (arith, n, within)) in
      subst (IsNamed ty) (same_Some r.0 x (sym r.1.listed ∙ e)) r.1

  shown : TypesRead
  shown = record {
    known = record { names = env.names; types = env.types; type_names = names_by 0 env.types };
    constants = entries_below env.constant_type_of (length env.names);
  }

  numbered_answered : (k ty : ℕ) → In (numbered env.names (names_by 0 env.types)) (k, ty) → env.type_of k ≡ Some ty
  numbered_answered k ty i =
      let m = in_map (λ (p : ℕ × List ℕ). (number env.names p.1, p.0)) (enumerate_from 0 (names_by 0 env.types)) (k, ty) i in
      let r = in_enumerated 0 0 (names_by 0 env.types) m.0 m.1 in
      let j : r.0 ≡ ty = (let q = r.1 in let s : m.0.0 ≡ ty = ap (λ (x : ℕ × ℕ). x.1) m.2 in omega (arith, q, s)) in
      let n = listed_named ty m.0.1 (subst (λ a. slice_get (names_by 0 env.types) a ≡ Some m.0.1) j r.2) in
      let same : n.key ≡ k = sym (number_back env.names n.key m.0.1 once n.at_key) ∙ ap (λ (x : ℕ × ℕ). x.0) m.2 in
      subst (λ a. env.type_of a ≡ Some ty) same n.of_type

  answered_numbered : (k ty : ℕ) → env.type_of k ≡ Some ty → In (numbered env.names (names_by 0 env.types)) (k, ty)
  answered_numbered k ty e =
      let n = type_named ty (h.type_names k ty e).1 in
      let same : number env.names n.0 ≡ k = number_back env.names n.1.key n.0 once n.1.at_key ∙ sym (n.1.only k e) in
      subst (λ a. In (numbered env.names (names_by 0 env.types)) (a, ty)) same
      (map_in (λ (p : ℕ × List ℕ). (number env.names p.1, p.0)) (enumerate_from 0 (names_by 0 env.types)) (ty, n.0) (enumerated_in 0 ty ty (names_by 0 env.types) n.0 (omega arith) n.1.listed))

  names_differ : IsDistinct (names_by 0 env.types)
  names_differ j k x e f = grind (arith, common_steps, listed_named j x e, listed_named k x f, once, same_Some j k)

  names_met : All (λ x. IsTrue (has_name env.names x)) (names_by 0 env.types)
  names_met =
      all_members (λ x. IsTrue (has_name env.names x)) (names_by 0 env.types)
      (λ x c. let g = get_from_member (names_by 0 env.types) x c in let n = listed_named g.0 x g.1 in has_at env.names n.key x n.at_key)

  abbrev constants : List (ℕ × ℕ)
  constants = entries_below env.constant_type_of (length env.names)

  can_be_read : AreReadable shown
  unfolding shown
  can_be_read = record {
    well_formed = record {
      names_distinct = once;
      builtins = h.builtins;
      ids = h.ids;
      type_names_distinct = names_differ;
      as_many_names = as_many 0 env.types;
      names_of_types_met = names_met;
      types_in_range = h.types_in_range;
      numbers_in_range = h.numbers_in_range;
    };
    variants = h.variants;
    names_of_constants = all_members (λ c. c.0 < length env.names) constants (λ c i. (h.constants c.0 c.1 (entry_answered env.constant_type_of (length env.names) c (in_from_contains constants c i))).0);
    types_of_constants = all_members (λ c. c.1 < length env.types) constants (λ c i. (h.constants c.0 c.1 (entry_answered env.constant_type_of (length env.names) c (in_from_contains constants c i))).1);
  }

  is_shown : IsReadAs env shown
  unfolding shown
  is_shown = record {
    names = refl;
    inverse = h.inverse;
    types = refl;
    look_ups = answers_by env.type_of (numbered env.names (names_by 0 env.types)) numbered_answered answered_numbered;
    constants =
        answers_by env.constant_type_of constants
        (λ k v i. entry_answered env.constant_type_of (length env.names) (k, v) i)
        (λ k v e. answered_entry env.constant_type_of (length env.names) k v (h.constants k v e).0 e);
    no_errors = h.no_errors;
  }

pub read_environment : (env : TypeEnvironment) → IsWellFormedEnvironment env → (e : TypesRead) × AreReadable e × IsReadAs env e
read_environment env h = (shown env h, can_be_read env h, is_shown env h)
