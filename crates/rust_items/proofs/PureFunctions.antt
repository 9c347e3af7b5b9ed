-- What has one name outside is pure alike, where functions are told apart.
use Rattle.std.proofs.Common.{◌≡◌, ◌∙◌, ◌++◌, ◌∷◌, [], ◌+◌, ◌≤◌, ◌||◌, ℕ, zero, suc, Bool, true, false, not, cond, List, Option, Some, None, drop, length, map, slice_get, refl, sym, ap, subst, inl, inr, arith}
use Rattle.std.specs.Prelude.{codes}
use Rattle.std.specs.List.{flat_map}
use Rattle.std.specs.Str.{chars, IsAscii}
use Rattle.std.proofs.lemmas.List.{append-nil, length-append, length-map}
use Rattle.std.proofs.lemmas.Str.{IsUtf8-from_ascii, chars-append, chars-IsAscii}
use Rattle.std.proofs.lemmas.Str.Ascii.{IsAscii-nil, IsAscii-cons}
use Rattle.model.specs.lists.Signatures.{text_of}
use Rattle.model.specs.lists.Tables.{TermEntry, TermKindEntry, variant_term, struct_term, declared_term, ConstructorEntry, internal_constructor, external_constructor, ExtractorEntry, internal_extractor, external_extractor}
use Rattle.model.specs.rules.Program.{Program, unknown, flags_of, kind_of}
use Rattle.model.proofs.Elements.{In, in_flat_map, in_right, in_slice}
use Rattle.model_code.specs.Notation.{Callee, extractor_of, constructor_of}
use Rattle.model_code.specs.Alike.{term_of}
use Rattle.model_code.specs.ProgramNotation.{outside_in, outside_of, outside_of_entry}
use Rattle.model_code.specs.PureAlike.{ArePureAlike, is_impure_callee}
use Rattle.rust_items.specs.Claims.{Claim, IsWellNamed}
use Rattle.rust_items.specs.NamedPrograms.{NamedProgram, function_claim, functions_kind, functions_of, functions_of_kind, purely}
use Rattle.rust_items.specs.NameLaws.{FunctionsApartArePureAlike}
use Rattle.rust_items.specs.RustNames.{end_mark, front, is_among, is_blank, needs_front, part, path_keywords, raw_keywords, raw_mark, spelled, word_for}

pub placed : {X : Type 0} (xs : List X) (x : X) → In xs x → (i : ℕ) × (slice_get xs i ≡ Some x)
placed [] x i = absurd i
placed (y ∷ ys) x (inl e) = (0, ap Some e)
placed (y ∷ ys) x (inr i) = let r = placed ys x i in (suc r.0, r.1)

-- whether a function of a term is told as pure
abbrev told_pure : TermEntry → Callee → Bool
told_pure e (extractor_of term) = true
told_pure e (constructor_of term) = (flags_of (kind_of e)).pure

module _ (names : List (List ℕ)) (e : TermEntry) (name : ℕ) where
  of_kind : (f : Callee) (k : TermKindEntry) → outside_in k f ≡ Some name → In (functions_of_kind names k) (function_claim names (told_pure (record e { kind = k }) f) name)
  of_kind (extractor_of t) (declared_term flags made (Some (external_extractor n infallible at))) h = let z : n ≡ name = cc in inl (ap (function_claim names true) z)
  of_kind (extractor_of t) (declared_term flags made (Some (internal_extractor template))) h = absurd (cc)
  of_kind (extractor_of t) (declared_term flags made None) h = absurd (cc)
  of_kind (extractor_of t) (variant_term variant) h = absurd (cc)
  of_kind (extractor_of t) struct_term h = absurd (cc)
  of_kind (constructor_of t) (declared_term flags (Some (external_constructor n)) taken) h = let z : n ≡ name = cc in in_right _ (function_claim names flags.pure n ∷ []) _ (inl (ap (function_claim names flags.pure) z))
  of_kind (constructor_of t) (declared_term flags (Some internal_constructor) taken) h = absurd (cc)
  of_kind (constructor_of t) (declared_term flags None taken) h = absurd (cc)
  of_kind (constructor_of t) (variant_term variant) h = absurd (cc)
  of_kind (constructor_of t) struct_term h = absurd (cc)

twice : (b : Bool) → b ≡ not (not b)
twice true = refl
twice false = refl

told_so : (p : Program) (f : Callee) (e : TermEntry) → slice_get p.terms (term_of f) ≡ Some e → told_pure e f ≡ not (is_impure_callee p f)
told_so p (extractor_of t) e h = refl
told_so p (constructor_of t) e h = twice _ ∙ ap (λ o. not (not (flags_of (elim o [ None ↦ unknown | Some x ↦ kind_of x ])).pure)) (sym h)

module _ (n : NamedProgram) (p : Program) (same : p.terms ≡ n.terms) where
  claimed_by : (f : Callee) (name : ℕ) (o : Option TermEntry) → slice_get p.terms (term_of f) ≡ o → outside_of_entry o f ≡ Some name
      → In (flat_map (functions_of n.names) p.terms) (function_claim n.names (not (is_impure_callee p f)) name)
  claimed_by f name None at h = absurd (cc)
  claimed_by f name (Some e) at h =
      in_flat_map (functions_of n.names) p.terms e _ (in_slice p.terms (term_of f) e at)
      (subst (λ b. In (functions_of n.names e) (function_claim n.names b name)) (told_so p f e at) (of_kind n.names e name f e.kind h))

  pub claimed : (f : Callee) (name : ℕ) → outside_of p f ≡ Some name → In (functions_kind n).claims (function_claim n.names (not (is_impure_callee p f)) name)
  claimed f name h = subst (λ ts. In (flat_map (functions_of n.names) ts) (function_claim n.names (not (is_impure_callee p f)) name)) same (claimed_by f name (slice_get p.terms (term_of f)) refl h)

longer : (x : List ℕ) → length (codes "pure " ++ x) ≡ 5 + length x
longer x = length-append (codes "pure ") x

told_apart : (a b : Bool) (x : List ℕ) → purely a x ≡ purely b x → a ≡ b
told_apart true true x e = refl
told_apart false false x e = refl
told_apart true false x e = (let l = ap length e in absurd (omega (arith, longer x, l)))
told_apart false true x e = (let l = ap length e in absurd (omega (arith, longer x, l)))

negated : (a b : Bool) → not a ≡ not b → a ≡ b
negated true true e = refl
negated false false e = refl
negated true false e = absurd (cc)
negated false true e = absurd (cc)

pub functions_apart_are_pure_alike_lem : FunctionsApartArePureAlike
functions_apart_are_pure_alike_lem n p same named f g name h k =
    let a = not (is_impure_callee p f) in
    let b = not (is_impure_callee p g) in
    let i = placed (functions_kind n).claims (function_claim n.names a name) (claimed n p same f name h) in
    let j = placed (functions_kind n).claims (function_claim n.names b name) (claimed n p same g name k) in
    negated _ _ (told_apart a b (text_of n.names name) (named.apart.apart i.0 j.0 _ _ i.1 j.1 refl))

-- names that are written alike are alike, if they are where functions are told as pure or not: what stands before a pure one is longer
-- than what is written around a name
abbrev pure_name : List ℕ → List ℕ
pure_name x = codes "pure " ++ x

short : (b : Bool) (mark : List ℕ) (n : ℕ) → length mark ≤ n → length (cond b mark []) ≤ n
short true mark n h = h
short false mark n h = omega arith

written_length : (name : List ℕ) → length (spelled name) ≤ 4 + length (chars name)
written_length name =
    let raw : length (raw_mark name) ≤ 2 = short (is_among raw_keywords name) (codes "r#") 2 (omega arith) in
    let begin : length (front name) ≤ 1 = short (needs_front name) (codes "_") 1 (omega arith) in
    let end : length (end_mark name) ≤ 1 = short (is_among path_keywords name || is_blank (chars name)) (codes "_") 1 (omega arith) in
    let a = length-append (raw_mark name ++ part name) (end_mark name) in
    let b = length-append (raw_mark name) (part name) in
    let c = length-append (front name) (map word_for (chars name)) in
    let d = length-map (chars name) word_for in
    omega (arith, raw, begin, end, a, b, c, d)

pure_ascii : IsAscii (codes "pure ")
pure_ascii = IsAscii-cons 112 (codes "ure ") (omega arith) (IsAscii-cons 117 (codes "re ") (omega arith) (IsAscii-cons 114 (codes "e ") (omega arith) (IsAscii-cons 101 (codes " ") (omega arith) (IsAscii-cons 32 [] (omega arith) IsAscii-nil))))

pure_length : (x : List ℕ) → length (spelled (pure_name x)) ≡ 5 + length (chars x)
pure_length x =
    let cs : chars (pure_name x) ≡ codes "pure " ++ chars x = chars-append (codes "pure ") x (IsUtf8-from_ascii (codes "pure ") pure_ascii) ∙ ap (λ y. y ++ chars x) (chars-IsAscii (codes "pure ") pure_ascii) in
    ap length (ap (λ y. (map word_for y) ++ cond (is_blank y) (codes "_") []) cs)
    ∙ ap length (append-nil (codes "pure_" ++ map word_for (chars x))) ∙ length-append (codes "pure_") (map word_for (chars x)) ∙ ap (λ m. 5 + m) (length-map (chars x) word_for)

no_pure : (x : List ℕ) → spelled x ≡ spelled (pure_name x) → ⊥
no_pure x e = (let l = ap length e in omega (arith, written_length x, pure_length x, l))

pub same_name : (a b : Bool) (x y : List ℕ) → spelled x ≡ spelled y → purely a x ≡ purely b y → x ≡ y
same_name true true x y e f = ap (drop 5) f
same_name false false x y e f = f
same_name true false x y e f = absurd (no_pure x (e ∙ ap spelled (sym f)))
same_name false true x y e f = absurd (no_pure y (sym e ∙ ap spelled f))
