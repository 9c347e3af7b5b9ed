-- Adding the terms that types make.
use Rattle.std.proofs.Common.{◌≡◌, nat_eq, cond, ℕ, ◌+◌, ◌<◌, true, false, List, [], ◌∷◌, ◌++◌, length, take, drop, get_or, map, slice_get, Option, None, Some, is_some, option_map, Contains, refl, sym, ap, subst, ◌∙◌, arith, inl, inr}
use Rattle.std.specs.List.{flat_map, cons_option}
use Rattle.std.proofs.lemmas.List.{append_assoc, append-nil, at_drop_more, take_more, take-append-drop, map-append, length-map, length_push}
use Rattle.std.proofs.lemmas.List.Concat.{flat_map-append}
use Rattle.std.proofs.lemmas.List.Elements.{Contains-append_left, filter_map-append}
use Rattle.std.proofs.lemmas.Option.{same_Some, slice_get-get_or}
use Rattle.std.proofs.lemmas.Grind.{common_steps}
use Rattle.model.specs.lists.Names.{number, has_name, with_name, IsDistinct}
use Rattle.model.specs.rules.Values.{field_types}
use Rattle.model.specs.lists.Tables.{TypeEntry, FieldEntries, TermEntry}
use Rattle.model.specs.lists.TermTable.{made_by, terms_made, variant_as_term}
use Rattle.model.specs.claims.Environments.{TypesRead}
use Rattle.model.proofs.Joined.{all_left, all_right}
use Rattle.model.proofs.Names.{found, has_at, known_name, get_kept}
use Rattle.model.proofs.Positions.{get_front}
use Rattle.core_syntax.specs.declared.syntax.Error.{Error}
use Rattle.core_types.specs.declared.type_env.TypeEnv.{TypeEnv}
use Rattle.core_types.specs.declared.types.Type as T
use Rattle.core_types.specs.declared.types.Variant.{Variant}
use Rattle.core_types.specs.Envs.{names_of, symbol_of, IsInterned}
use Rattle.core_syntax.specs.NotedErrors.{MayNoteMore, NotesMore}
use Rattle.core_types.specs.Types.{entry_field_types}
use Rattle.core_types.specs.TypePositions.{entry_positions}
use Rattle.core_types.specs.TypeViews.{type_view, type_views, variant_view}
use Rattle.core_types.proofs.Inverse.{inverse_distinct}
use Rattle.core_syntax.proofs.NotedErrors.{both}
use Rattle.core_terms.specs.declared.term_table.TermTable.{TermTable}
use Rattle.core_terms.specs.declared.term.Term.{Term}
use Rattle.core_terms.specs.Reading.{IsWithin}
use Rattle.core_terms.specs.TermTables.{term_at}
use Rattle.core_terms.specs.TermViews.{term_view, term_views}
use Rattle.core_terms.specs.TermBreaches.{FirstStandsAt}
use Rattle.core_terms.specs.Stages.{place_among}
use Rattle.core_terms.specs.Signing.{HoldsTerms, texts_at, NumbersAreMet, PushesTerm, GrowsBy, AreTaken, AddsMade, AddsAllMade, TakesNames}
use Rattle.core_terms.proofs.Breaches.{begins_before}
use Rattle.core_terms.proofs.Declaring.{adds_term, place_member}
use Rattle.core_terms.proofs.Finding.{at_number}

pub types_of_fields : (fs : FieldEntries) → entry_field_types fs ≡ field_types fs
types_of_fields _ = refl

pub none_mapped : {X Y : Type 0} (f : X → Y) (o : Option X) → is_some o ≡ false → option_map f o ≡ None
none_mapped f o h = grind (arith, common_steps)

pub some_mapped : {X Y : Type 0} (f : X → Y) (o : Option X) → is_some o ≡ true → (y : Y) × (option_map f o ≡ Some y)
some_mapped f None h = absurd (cc)
some_mapped f (Some x) h = (f x, refl)

pub distinct_left : (xs ys : List (List ℕ)) → IsDistinct (xs ++ ys) → IsDistinct xs
distinct_left xs ys once j k x p q = once j k x (get_front xs ys j x p) (get_front xs ys k x q)

texts_more : (e : TypesRead) (xs ys : List ℕ) → texts_at e (xs ++ ys) ≡ texts_at e xs ++ texts_at e ys
texts_more e xs ys = filter_map-append (slice_get e.known.names) xs ys

-- names of numbers, behind those of others
pub texts_behind : (e : TypesRead) (named : List (List ℕ)) (xs ys : List ℕ) → (named ++ texts_at e xs) ++ texts_at e ys ≡ named ++ texts_at e (xs ++ ys)
texts_behind e named xs ys = append_assoc named (texts_at e xs) (texts_at e ys) ∙ ap (λ l. named ++ l) (sym (texts_more e xs ys))

abbrev pub met_left : (e : TypesRead) (xs ys : List ℕ) → NumbersAreMet e (xs ++ ys) → NumbersAreMet e xs
met_left e xs ys m = all_left (λ n. n < length e.known.names) xs ys m

abbrev pub met_right : (e : TypesRead) (xs ys : List ℕ) → NumbersAreMet e (xs ++ ys) → NumbersAreMet e ys
met_right e xs ys m = all_right (λ n. n < length e.known.names) xs ys m

pub grows_nothing : (a : TermTable) → GrowsBy [] [] a a
grows_nothing a e met named fs env i m s = grind (arith, common_steps, append-nil named, append-nil fs)

pub grows_more : (xs ys : List ℕ) (gs hs : List (ℕ → TermEntry)) (a b c : TermTable) → GrowsBy xs gs a b → GrowsBy ys hs b c → GrowsBy (xs ++ ys) (gs ++ hs) a c
grows_more xs ys gs hs a b c g h e met named fs env i m s =
    let first = g e met named fs env i (met_left e xs ys m) s in
    let second = h e met (named ++ texts_at e xs) (fs ++ gs) env i (met_right e xs ys m) first in
    subst (λ ns. HoldsTerms e met ns (fs ++ (gs ++ hs)) env c) (texts_behind e named xs ys)
    (subst (λ l. HoldsTerms e met ((named ++ texts_at e xs) ++ texts_at e ys) l env c) (append_assoc fs gs hs) second)

pub taken_later : (xs ys : List ℕ) (gs : List (ℕ → TermEntry)) (a b : TermTable) → GrowsBy xs gs a b → AreTaken ys b → AreTaken (xs ++ ys) a
taken_later xs ys gs a b g t e met named fs env i m s =
    let later = t e met (named ++ texts_at e xs) (fs ++ gs) env i (met_right e xs ys m) (g e met named fs env i (met_left e xs ys m) s) in
    record {
      earlier = xs ++ later.earlier;
      number = later.number;
      later = later.later;
      is = ap (λ l. xs ++ l) later.is ∙ sym (append_assoc xs later.earlier (later.number ∷ later.later));
      name = later.name;
      name_is = later.name_is;
      taken = subst (λ l. Contains l later.name) (texts_behind e named xs later.earlier) later.taken;
    }

-- what stands at a number that was met
module _ (e : TypesRead) (met named : List (List ℕ)) (fs : List (ℕ → TermEntry)) (env : TypeEnv) (i : IsInterned env) (n : ℕ) (within : n < length e.known.names) (table : TermTable) (s : HoldsTerms e met named fs env table) where
  abbrev text : List ℕ
  text = get_or e.known.names n []

  pub here : slice_get e.known.names n ≡ Some text
  here = slice_get-get_or e.known.names n [] within

  here_now : slice_get (names_of env) n ≡ Some text
  here_now = subst (λ ns. slice_get ns n ≡ Some text) (sym s.names) (get_kept e.known.names met n text here)

  met_now : has_name (names_of env) text ≡ true
  met_now = has_at (names_of env) n text here_now

  pub number_is : number (names_of env) text ≡ n
  number_is = inverse_distinct (names_of env) (symbol_of env) i (number (names_of env) text) n text (found (names_of env) text met_now) here_now

  pub same_names : names_of env ≡ with_name (names_of env) text
  same_names = sym (known_name (names_of env) text met_now)

  pub place_is : term_at table n ≡ place_among named text
  place_is = ap (term_at table) (sym number_is) ∙ at_number (names_of env) (term_at table) (place_among named) s.finds text

pub grows_one : (n : ℕ) (f : ℕ → TermEntry) (old new : TermTable) → term_at old n ≡ None → PushesTerm n f old new → GrowsBy (n ∷ []) (f ∷ []) old new
grows_one n f old new free p e met named fs env i m s =
    let x : List ℕ = get_or e.known.names n [] in
    let num : number (names_of env) x ≡ n = number_is e met named fs env i n m.0 old s in
    subst (λ o. HoldsTerms e met (named ++ cons_option o []) (fs ++ f ∷ []) env new) (sym (here e met named fs env i n m.0 old s))
    (adds_term e met named fs env old s x f met env new s.names (same_names e met named fs env i n m.0 old s) i (rw num free) (λ k. rw num (p.ids k)) p.terms p.converters)

pub taken_one : (n : ℕ) (ys : List ℕ) (id : ℕ) (old : TermTable) → term_at old n ≡ Some id → AreTaken (n ∷ ys) old
taken_one n ys id old taken e met named fs env i m s =
    let x : List ℕ = get_or e.known.names n [] in
    record {
      earlier = [];
      number = n;
      later = ys;
      is = refl;
      name = x;
      name_is = here e met named fs env i n m.0 old s;
      taken = Contains-append_left named [] x (place_member named x id (sym (place_is e met named fs env i n m.0 old s) ∙ taken));
    }

-- one more type that makes none whose name is taken
takes_before : (types : List TypeEntry) (t : TypeEntry) (old : TermTable) (es es' es'' : List Error) → MayNoteMore es' es'' → NotesMore es es' → TakesNames types old es es' → TakesNames (types ++ t ∷ []) old es es''
takes_before types t old es es' es'' more some p = record {
  before = p.before;
  entry = p.entry;
  after = p.after ++ t ∷ [];
  whole = ap (λ l. l ++ t ∷ []) p.whole ∙ append_assoc p.before (p.entry ∷ p.after) (t ∷ []);
  mid = p.mid;
  grows = p.grows;
  taken = p.taken;
  begins = begins_before (entry_positions p.entry) es es' es'' some p.begins more;
}

-- the terms of some types are added, and then those of the next one
adds_next : (types : List TypeEntry) (t : TypeEntry) (a b c : TermTable) (es mid es' : List Error) → AddsMade (made_by t) (terms_made t) b mid c es' → FirstStandsAt (entry_positions t) mid es' → AddsAllMade types a es b mid → AddsAllMade (types ++ t ∷ []) a es c es'
adds_next types t a b c es mid es' (inl q) begun (inl p) =
    let numbers = flat_map-append made_by types (t ∷ []) ∙ ap (λ l. flat_map made_by types ++ l) (append-nil (made_by t)) in
    let entries = flat_map-append terms_made types (t ∷ []) ∙ ap (λ l. flat_map terms_made types ++ l) (append-nil (terms_made t)) in
    inl (
      q.0 ∙ p.0,
      subst (λ ns. GrowsBy ns (flat_map terms_made (types ++ t ∷ [])) a c) (sym numbers) (subst (λ gs. GrowsBy (flat_map made_by types ++ made_by t) gs a c) (sym entries)
          (grows_more (flat_map made_by types) (made_by t) (flat_map terms_made types) (terms_made t) a b c p.1 q.1)),
    )
adds_next types t a b c es mid es' (inr q) begun (inl p) =
    inr (subst (λ l. NotesMore l es') p.0 q.0, record { before = types; entry = t; after = []; whole = refl; mid = b; grows = p.1; taken = q.1; begins = subst (λ l. FirstStandsAt (entry_positions t) l es') p.0 begun })
adds_next types t a b c es mid es' (inl q) begun (inr p) = inr (subst (NotesMore es) (sym q.0) p.0, takes_before types t a es mid es' (inl q.0) p.0 p.1)
adds_next types t a b c es mid es' (inr q) begun (inr p) = inr (both es mid es' p.0 q.0, takes_before types t a es mid es' (inr q.0) p.0 p.1)

-- of one more type
module _ (types : List T.Type) (i : ℕ) (t : T.Type) (within : i < length types) (at : t ≡ get_or types i t) where
  views : type_views (take (i + 1) types) ≡ type_views (take i types) ++ type_view t ∷ []
  views = ap type_views (take_more types i t within ∙ ap (λ x. take i types ++ x ∷ []) (sym at)) ∙ map-append type_view (take i types) (t ∷ [])

  pub next_made : (a b c : TermTable) (es mid es' : List Error) → AddsMade (made_by (type_view t)) (terms_made (type_view t)) b mid c es' → FirstStandsAt (entry_positions (type_view t)) mid es' → AddsAllMade (type_views (take i types)) a es b mid
      → AddsAllMade (type_views (take (i + 1) types)) a es c es'
  next_made a b c es mid es' q begun p = subst (λ l. AddsAllMade l a es c es') (sym views) (adds_next (type_views (take i types)) (type_view t) a b c es mid es' q begun p)

abbrev pub variant_numbers_of : List Variant → List ℕ
variant_numbers_of vs = map (λ v. v.full_name) (map variant_view vs)

abbrev pub variant_entries_of : ℕ → List Variant → List (ℕ → TermEntry)
variant_entries_of ty vs = map (variant_as_term ty) (map variant_view vs)

-- of one more variant
module _ (ty : ℕ) (vs : List Variant) (i : ℕ) (v : Variant) (within : i < length vs) (at : v ≡ get_or vs i v) where
  variants_so_far : take (i + 1) vs ≡ take i vs ++ v ∷ []
  variants_so_far = take_more vs i v within ∙ ap (λ x. take i vs ++ x ∷ []) (sym at)

  variants_around : vs ≡ take i vs ++ v ∷ drop (i + 1) vs
  variants_around = sym (take-append-drop i vs) ∙ ap (λ l. take i vs ++ l) (at_drop_more (λ l. l) vs i v within ∙ ap (λ x. x ∷ drop (i + 1) vs) (sym at))

  pub next_variant : (a b c : TermTable) → term_at b v.fullname.0 ≡ None → PushesTerm v.fullname.0 (variant_as_term ty (variant_view v)) b c → GrowsBy (variant_numbers_of (take i vs)) (variant_entries_of ty (take i vs)) a b
      → GrowsBy (variant_numbers_of (take (i + 1) vs)) (variant_entries_of ty (take (i + 1) vs)) a c
  next_variant a b c free p g =
      subst (λ l. GrowsBy (variant_numbers_of l) (variant_entries_of ty l) a c) (sym variants_so_far)
      (subst (λ l. GrowsBy (map (λ v. v.full_name) l) (map (variant_as_term ty) l) a c) (sym (map-append variant_view (take i vs) (v ∷ [])))
      (subst (λ ns. GrowsBy ns (map (variant_as_term ty) (map variant_view (take i vs) ++ variant_view v ∷ [])) a c) (sym (map-append (λ v. v.full_name) (map variant_view (take i vs)) (variant_view v ∷ [])))
      (subst (λ gs. GrowsBy (variant_numbers_of (take i vs) ++ v.fullname.0 ∷ []) gs a c) (sym (map-append (variant_as_term ty) (map variant_view (take i vs)) (variant_view v ∷ [])))
      (grows_more (variant_numbers_of (take i vs)) (v.fullname.0 ∷ []) (variant_entries_of ty (take i vs)) (variant_as_term ty (variant_view v) ∷ []) a b c g
      (grows_one v.fullname.0 (variant_as_term ty (variant_view v)) b c free p)))))

  pub taken_variant : (a b : TermTable) (id : ℕ) → term_at b v.fullname.0 ≡ Some id → GrowsBy (variant_numbers_of (take i vs)) (variant_entries_of ty (take i vs)) a b → AreTaken (variant_numbers_of vs) a
  taken_variant a b id taken g =
      subst (λ l. AreTaken (variant_numbers_of l) a) (sym variants_around)
      (subst (λ l. AreTaken (map (λ v. v.full_name) l) a) (sym (map-append variant_view (take i vs) (v ∷ drop (i + 1) vs)))
      (subst (λ l. AreTaken l a) (sym (map-append (λ v. v.full_name) (map variant_view (take i vs)) (map variant_view (v ∷ drop (i + 1) vs))))
      (taken_later (variant_numbers_of (take i vs)) (v.fullname.0 ∷ variant_numbers_of (drop (i + 1) vs)) (variant_entries_of ty (take i vs)) a b g
      (taken_one v.fullname.0 (variant_numbers_of (drop (i + 1) vs)) id b taken))))

pub pushed_entry : (old new : List Term) (t : Term) (f : ℕ → TermEntry) (n : ℕ) → new ≡ old ++ t ∷ [] → term_view t ≡ f n → term_views new ≡ term_views old ++ f n ∷ []
pushed_entry old new t f n more is = ap term_views more ∙ map-append term_view old (t ∷ []) ∙ ap (λ e. term_views old ++ e ∷ []) is

pub within_push : (n : ℕ) (f : ℕ → TermEntry) (old new : TermTable) → PushesTerm n f old new → IsWithin old → IsWithin new
within_push n f old new p w k m h =
    let size : length new.terms.items ≡ length old.terms.items + 1 = sym (length-map new.terms.items term_view) ∙ ap length p.terms ∙ length_push (term_views old.terms.items) (f (length old.terms.items)) ∙ ap (λ l. l + 1) (length-map old.terms.items term_view) in
    (elim (nat_eq n k) as (λ b. term_at new k ≡ cond b (Some (length old.terms.items)) (term_at old k) → m < length new.terms.items) [
      | true ↦ λ g. let last : length old.terms.items ≡ m = same_Some (length old.terms.items) m (sym g ∙ h) in omega (arith, size, last)
      | false ↦ λ g. let before = w k m (sym g ∙ h) in omega (arith, size, before)
    ]) (p.ids k)

-- a term that a type makes is added, or its name is taken
pub added_one : (n : ℕ) (f : ℕ → TermEntry) (old new : TermTable) (es : List Error) → term_at old n ≡ None → PushesTerm n f old new → AddsMade (n ∷ []) (f ∷ []) old es new es
added_one n f old new es free p = inl (refl, grows_one n f old new free p)
