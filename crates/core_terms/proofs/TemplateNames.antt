-- The terms and the arguments that the pattern of an internal extractor names.
use Rattle.std.proofs.Common.{◌≡◌, ℕ, ◌+◌, ◌<◌, ◌≤◌, List, [], ◌∷◌, ◌++◌, ◌⊎◌, length, take, get_or, map, Option, None, Some, is_some, All, Bor, Contains, IsTrue, sym, ap, subst, ◌∙◌, arith, ⊎_elim}
use Rattle.std.proofs.lemmas.Bool.{false≢true}
use Rattle.std.proofs.lemmas.List.{map-append, take_more}
use Rattle.std.proofs.lemmas.List.Elements.{All-nil, All-contains, All-map, All-weaker, Contains-get_or}
use Rattle.std.proofs.lemmas.Option.{same_Some}
use Rattle.std.proofs.lemmas.Simd.{map-map}
use Rattle.std.proofs.lemmas.Grind.{common_steps}
use Rattle.model.specs.lists.Syntax.{Position, Name, PatternTree}
use Rattle.model.specs.lists.TermTable.{terms_of, terms_in}
use Rattle.model.proofs.Members.{in_map, from_map}
use Rattle.core_syntax.specs.declared.syntax.Error.{Error}
use Rattle.core_syntax.specs.declared.syntax.Ident.{Ident}
use Rattle.core_syntax.specs.declared.syntax.Pos.{Pos}
use Rattle.core_syntax.specs.Places.{term_view}
use Rattle.core_syntax.specs.SyntaxViews.{name_view}
use Rattle.core_types.specs.declared.ids.TermId.{TermId}
use Rattle.core_types.specs.declared.type_env.TypeEnv.{TypeEnv}
use Rattle.core_terms.specs.declared.term_table.TermTable.{TermTable}
use Rattle.core_terms.specs.Reading.{term_of_name}
use Rattle.core_terms.specs.Signing.{NotesIfWrong}
use Rattle.core_terms.specs.Templating.{AddsFound, AreArguments, AreFound, HaveUnknown, IsFoundTerm}
use Rattle.core_terms.proofs.ErrorSteps.{both_note, notes_as}

-- the term of one more name
pub next_found : {X : Type 0} (f : X → Name) (env : TypeEnv) (table : TermTable) (xs : List X) (i : ℕ) (x : X) → i < length xs → x ≡ get_or xs i x → (first es es' : List Error) (found found' : List TermId)
    → NotesIfWrong es es' (AddsFound (term_of_name env table (f x)) found found') (term_of_name env table (f x) ≡ None)
    → NotesIfWrong first es (AreFound env table (map f (take i xs)) (map (λ t. t.0) found)) (HaveUnknown env table (map f xs))
    → NotesIfWrong first es' (AreFound env table (map f (take (i + 1) xs)) (map (λ t. t.0) found')) (HaveUnknown env table (map f xs))
next_found {X} f env table xs i x within here first es es' found found' a s =
    let Old : Type 0 = AreFound env table (map f (take i xs)) (map (λ t. t.0) found) in
    let New : Type 0 = AreFound env table (map f (take (i + 1) xs)) (map (λ t. t.0) found') in
    let Adds : Type 0 = AddsFound (term_of_name env table (f x)) found found' in
    let None_is : Type 0 = term_of_name env table (f x) ≡ None in
    let Unknown : Type 0 = HaveUnknown env table (map f xs) in
    let taken : take (i + 1) xs ≡ take i xs ++ x ∷ [] = take_more xs i x within ∙ ap (λ y. take i xs ++ y ∷ []) (sym here) in
    let member : Contains (map f xs) (f x) = in_map f xs x (subst (Contains xs) (sym here) (Contains-get_or xs i x within)) in
    let right : Old × Adds → New = λ p.
    ap (λ l. map Some (map (λ t. t.0) l)) p.1.adds
    ∙ ap (map Some) (map-append (λ t. t.0) found (p.1.id ∷ []))
    ∙ map-append Some (map (λ t. t.0) found) (p.1.id.0 ∷ [])
    ∙ ap (λ l. l ++ Some p.1.id.0 ∷ []) p.0
    ∙ ap (λ o. map (term_of_name env table) (map f (take i xs)) ++ o ∷ []) (sym p.1.is)
    ∙ sym (map-append (term_of_name env table) (map f (take i xs)) (f x ∷ []))
    ∙ ap (map (term_of_name env table)) (sym (map-append f (take i xs) (x ∷ [])) ∙ ap (map f) (sym taken)) in
    let wrong : Unknown ⊎ None_is → Unknown = λ w. ⊎_elim (λ u. u) (λ none all. false≢true (sym (ap is_some none) ∙ All-contains (IsFoundTerm env table) (map f xs) (f x) all member)) w in
    notes_as (Old × Adds) New (Unknown ⊎ None_is) Unknown first es' right wrong (both_note Old Adds Unknown None_is first es es' s a)

-- names whose terms are found are those of terms
pub found_all : (f : Name → Option ℕ) (names : List Name) (ids : List ℕ) → map Some ids ≡ map f names → All (λ n. IsTrue (is_some (f n))) names
found_all f [] ids h = All-nil (λ n. IsTrue (is_some (f n)))
found_all f (n ∷ ns) [] h = absurd (cc)
found_all f (n ∷ ns) (i ∷ is) h = grind (arith, common_steps, found_all f ns is)

-- the term of one of the names is one of those found
pub found_one : (f : Name → Option ℕ) (names : List Name) (ids : List ℕ) (n : Name) (u : ℕ) → map Some ids ≡ map f names → Contains names n → f n ≡ Some u → Contains ids u
found_one f names ids n u h there is = grind (arith, common_steps, in_map f names n there, from_map Some ids (f n), same_Some)

-- one of those found is the term of one of the names
pub name_found : (f : Name → Option ℕ) (names : List Name) (ids : List ℕ) (u : ℕ) → map Some ids ≡ map f names → Contains ids u → (n : Name) × Contains names n × (f n ≡ Some u)
name_found f names ids u h there = grind (arith, common_steps, in_map Some ids u there, from_map f names (Some u))

-- the greatest argument is among so many
pub greatest_below : (qs : List (Pos × ℕ)) (b : Pos × ℕ) (count : ℕ) (xs : List ℕ) → map (λ (a : Pos × ℕ). a.1) qs ≡ xs → All (λ (a : Pos × ℕ). a.1 ≤ b.1) qs → b.1 < count → AreArguments count xs
greatest_below qs b count xs e h l =
    subst (AreArguments count) e (All-map (λ i. i < count) (λ (a : Pos × ℕ). a.1) qs (All-weaker (λ (a : Pos × ℕ). a.1 ≤ b.1) (λ (a : Pos × ℕ). a.1 < count) (λ a k. omega arith) qs h))

pub greatest_past : (qs : List (Pos × ℕ)) (b : Pos × ℕ) (count : ℕ) (xs : List ℕ) → map (λ (a : Pos × ℕ). a.1) qs ≡ xs → Contains qs b → count ≤ b.1 → AreArguments count xs → ⊥
greatest_past qs b count xs e there l all = grind (arith, common_steps, in_map (λ (a : Pos × ℕ). a.1) qs b there)

pub none_used : (qs : List (Pos × ℕ)) (count : ℕ) (xs : List ℕ) → map (λ (a : Pos × ℕ). a.1) qs ≡ xs → qs ≡ [] → AreArguments count xs
none_used qs count xs e none = subst (AreArguments count) (ap (map (λ (a : Pos × ℕ). a.1)) (sym none) ∙ e) (All-nil (λ i. i < count))

-- the names of what was listed of a pattern
pub named_terms : (ts old : List (Pos × Bor Ident)) (p : PatternTree) → map (λ (t : Pos × Bor Ident). term_view t.0 t.1.now) ts ≡ map (λ (t : Pos × Bor Ident). term_view t.0 t.1.now) old ++ terms_of p → old ≡ [] → map (λ (t : Pos × Bor Ident). name_view t.1.now) ts ≡ terms_in p
named_terms ts old p h none = grind (arith, common_steps, map-map (λ (t : Position × Name). t.1) (λ (t : Pos × Bor Ident). term_view t.0 t.1.now) ts)
