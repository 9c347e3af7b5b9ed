-- Nothing that definitions name is written as a variable of the code.
use Rattle.std.proofs.Common.{◌≡◌, ◌∙◌, ◌++◌, ◌∷◌, [], ◌^◌, ◌<◌, ℕ, Bool, true, false, cond, List, Option, None, Some, refl, sym, ap, inl, inr, ⊎_elim}
use Rattle.std.specs.Prelude.{All, codes, find}
use Rattle.std.specs.List.{flat_map}
use Rattle.std.proofs.lemmas.List.Elements.{All-contains}
use Rattle.model.specs.lists.Signatures.{text_of}
use Rattle.model.specs.lists.Tables.{TermEntry}
use Rattle.model.proofs.Elements.{In, contains_from_in, from_flat_map, in_either, in_from_contains, in_right, or_right}
use Rattle.model_code.specs.PrintedNames.{PrintedName, number_in, printed_name}
use Rattle.rust_items.specs.Claims.{Claim, IsWellNamed, Namespace}
use Rattle.rust_items.specs.NameLaws.{VariablesAreFree, VariablesArePlain}
use Rattle.rust_items.specs.NamedPrograms.{NamedProgram, constants_kind, constructors_of, functions_kind, kinds, kinds_inside, paths_kind, term_claim, terms_kind, types_kind}
use Rattle.rust_items.specs.OwnNames.{is_own_type, is_own_value, is_variable, own_types, own_values}
use Rattle.rust_items.specs.RustNames.{is_among, part}

pub found_not : {X : Type 0} (p : X → Bool) (xs : List X) (x : X) → find p xs ≡ None → In xs x → p x ≡ true → ⊥
found_not p [] x none i passes = absurd i
found_not p (y ∷ ys) x none i passes =
    elim (p y) as (λ b. p y ≡ b → ⊥) [
      | true ↦ λ e. (let some : Some y ≡ None = sym (ap (λ b. cond b (Some y) (find p ys)) e) ∙ none in absurd (cc))
      | false ↦ λ e. ⊎_elim
          (λ same. (let t : true ≡ false = sym passes ∙ ap p (sym same) ∙ e in absurd (cc)))
          (λ more. found_not p ys x (sym (ap (λ b. cond b (Some y) (find p ys)) e) ∙ none) more passes)
          i
    ] refl

-- a variable is a value of the code's own
pub own_value : (name : List ℕ) → is_variable name ≡ true → is_own_value name ≡ true
own_value name e = or_right (is_among own_values name) (is_variable name) e

pub own_type : (name : List ℕ) → is_variable name ≡ true → is_own_type name ≡ true
own_type name e = or_right (is_among own_types name) (is_own_value name) (own_value name e)

-- the function of a term isn't written so
of_entry : (names : List (List ℕ)) (o : Option TermEntry) (c : Claim) → In (constructors_of names o) c → (name : List ℕ) × (c.written ≡ codes "constructor_" ++ part name)
of_entry names None c i = absurd i
of_entry names (Some t) c (inl e) = (text_of names t.name, ap (λ (x : Claim). x.written) (sym e))
of_entry names (Some t) c (inr i) = absurd i

of_term : (n : NamedProgram) (c : Claim) → In (terms_kind n).claims c → (name : List ℕ) × (c.written ≡ codes "constructor_" ++ part name)
of_term n c i = let r = from_flat_map (term_claim n.names n.terms) n.with_rules c i in of_entry n.names _ c r.2

module _ (n : NamedProgram) (all : All IsWellNamed (kinds n)) where
  well : (k : Namespace) → In (kinds n) k → IsWellNamed k
  well k i = All-contains IsWellNamed (kinds n) k all (contains_from_in (kinds n) k i)

  types_named : IsWellNamed (types_kind n)
  types_named = well (types_kind n) (inl refl)

  constants_named : IsWellNamed (constants_kind n)
  constants_named =
      well (constants_kind n) (inr (in_right (flat_map (kinds_inside n.names) n.types) (functions_kind n ∷ (constants_kind n ∷ (terms_kind n ∷ (paths_kind n ∷ [])))) (constants_kind n) (inr (inl refl))))

  module _ (plain : VariablesArePlain) (v : PrintedName) (small : number_in v < 2 ^ 64) (c : Claim) (same : c.written ≡ printed_name v) where
    told : is_variable c.written ≡ true
    told = ap is_variable same ∙ plain.told v small

    no_type : In (types_kind n).claims c → ⊥
    no_type i = found_not (λ (x : Claim). is_own_type x.written) (types_kind n).claims c types_named.free i (own_type c.written told)

    no_constant : In (constants_kind n).claims c → ⊥
    no_constant i = found_not (λ (x : Claim). is_own_value x.written) (constants_kind n).claims c constants_named.free i (own_value c.written told)

    no_term : In (terms_kind n).claims c → ⊥
    no_term i = let r = of_term n c i in plain.no_function v r.0 (sym same ∙ r.1)

    none : In ((types_kind n).claims ++ ((constants_kind n).claims ++ (terms_kind n).claims)) c → ⊥
    none i = ⊎_elim no_type (λ j. ⊎_elim no_constant no_term (in_either (constants_kind n).claims (terms_kind n).claims c j)) (in_either (types_kind n).claims ((constants_kind n).claims ++ (terms_kind n).claims) c i)

pub variables_are_free_lem : VariablesArePlain → VariablesAreFree
variables_are_free_lem plain n all v small c i same =
    none n all plain v small c same (in_from_contains ((types_kind n).claims ++ ((constants_kind n).claims ++ (terms_kind n).claims)) c i)
