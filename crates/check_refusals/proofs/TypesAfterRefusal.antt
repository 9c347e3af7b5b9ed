-- What a refusal to read rules leaves of the types can be read again: with the names that were met.
use Rattle.std.proofs.Common.{◌≡◌, ℕ, ◌<◌, List, ◌++◌, length, Result, Ok, Err, OnErr, All, IsTrue, sym, ◌∙◌, subst, arith}
use Rattle.std.specs.List.{flat_map}
use Rattle.std.proofs.lemmas.List.{length-append}
use Rattle.std.proofs.lemmas.List.Elements.{All-weaker}
use Rattle.std.proofs.lemmas.Option.{same_Some}
use Rattle.model.specs.lists.Names.{has_name, IsDistinct}
use Rattle.model.specs.lists.KnownTypes.{entry_numbers}
use Rattle.model.specs.claims.Environments.{TypesRead, AreReadable, IsLeftByRefusal, IsReadAs, TypeEnvironment, with_read_names}
use Rattle.model.proofs.Names.{has_left}

module _ (e : TypesRead) (more : List (List ℕ)) where
  abbrev names : List (List ℕ)
  names = e.known.names ++ more

  further : (n : ℕ) → n < length e.known.names → n < length names
  further n l = let count = length-append e.known.names more in omega (arith, l, count)

  -- types that can be read can be read with more names
  readable_with_more : AreReadable e → IsDistinct names → AreReadable (with_read_names e names)
  readable_with_more r distinct = record {
    well_formed = record {
      names_distinct = distinct;
      builtins = r.well_formed.builtins;
      ids = r.well_formed.ids;
      type_names_distinct = r.well_formed.type_names_distinct;
      as_many_names = r.well_formed.as_many_names;
      names_of_types_met =
          All-weaker (λ x. IsTrue (has_name e.known.names x)) (λ x. IsTrue (has_name names x)) (λ x h. has_left e.known.names more x h) e.known.type_names
          r.well_formed.names_of_types_met;
      types_in_range = r.well_formed.types_in_range;
      numbers_in_range =
          All-weaker (λ n. n < length e.known.names) (λ n. n < length names) further (flat_map entry_numbers e.known.types) r.well_formed.numbers_in_range;
    };
    variants = r.variants;
    names_of_constants = All-weaker (λ (c : ℕ × ℕ). c.0 < length e.known.names) (λ (c : ℕ × ℕ). c.0 < length names) (λ c l. further c.0 l) e.constants r.names_of_constants;
    types_of_constants = r.types_of_constants;
  }

pub read_again : (e : TypesRead) (env : TypeEnvironment) → AreReadable e × IsLeftByRefusal e env → AreReadable (with_read_names e env.names) × IsReadAs env (with_read_names e env.names)
read_again e env (readable, left) =
    let inverse = left.types.inverse in
    let names : env.names ≡ e.known.names ++ left.more = left.types.names in
    let distinct : IsDistinct env.names = λ j k x p q. same_Some j k (sym (inverse.numbered x j p) ∙ inverse.numbered x k q) in (
      subst (λ ns. AreReadable (with_read_names e ns)) (sym names) (readable_with_more e left.more readable (subst IsDistinct names distinct)),
      subst (λ ns. IsReadAs env (with_read_names e ns)) (sym names) left.types,
    )

-- what holds beside an answer
pub beside : {S E : Type 0} (r : Result S E) (P Q : Type 0) → P → OnErr r Q → OnErr r (P × Q)
beside (Ok s) P Q p q = tt
beside (Err x) P Q p q = (p, q)
