-- Further names don't matter: by one table twice, a rule has a typed rule from names that the table speaks of, and from these
-- and more.
use Rattle.std.proofs.Common.{◌≡◌, ℕ, suc, ◌<◌, List, [], ◌∷◌, ◌++◌, length, Some, slice_get, refl, arith}
use Rattle.std.proofs.lemmas.Grind.{common_steps}
use Rattle.model.specs.lists.Names.{IsDistinct}
use Rattle.model.specs.lists.Tables.{TermEntry}
use Rattle.model.specs.lists.Setting.{Setting, new_scope}
use Rattle.model.specs.lists.Elaborated.{elaborated_rule}
use Rattle.laws_typing.specs.FurtherNames.{SpeaksOfNames, FurtherNamesDontMatter}
use Rattle.model.proofs.Members.{get_within}
use Rattle.model.proofs.Positions.{get_front}
use Rattle.laws_typing.proofs.TwoTables.{OfOneText, same_kind, EntriesAlike, TwoTables, Alike, names_alike, few_alike, typings_alike}

-- a number of the names is that of its text
one_text : (ns : List (List ℕ)) (k : ℕ) → k < length ns → OfOneText ns ns k k
one_text ns k l = (let x = get_within ns k l in (x.0, x.1, x.1))

same_entries : (ns : List (List ℕ)) (ts : List TermEntry) → ((i : ℕ) (t : TermEntry) → slice_get ts i ≡ Some t → t.name < length ns) → EntriesAlike ns ns ts ts
same_entries ns [] k = tt
same_entries ns (t ∷ ts) k = grind (arith, common_steps, same_entries ns ts (λ i u h. k (suc i) u h), one_text ns t.name (k 0 t refl), same_kind t.kind)

-- a table beside itself
abbrev twice : (e : Setting) (ns : List (List ℕ)) → SpeaksOfNames e (length ns) → TwoTables
twice e ns known = record {
  setting = e;
  names = ns;
  other_terms = e.terms;
  other_names = ns;
  terms = same_entries ns e.terms known.terms;
  type_names = λ i k h. one_text ns k (known.type_names i k h);
  constants = λ i c h. one_text ns c.0 (known.constants i c h);
}

pub further_names_dont_matter_lem : FurtherNamesDontMatter
further_names_dont_matter_lem e d id r names more known once =
    let first : IsDistinct names = λ j k x p q. once j k x (get_front names more j x p) (get_front names more k x q) in
    let two = twice e names known in
    let on : Alike two (new_scope names) (new_scope (names ++ more)) = names_alike two names (names ++ more) (λ k x h. h) (λ k x h. get_front names more k x h) first once in
    let same = typings_alike two names (names ++ more) on d id r in
    (same, few_alike (elaborated_rule e d id r names) (elaborated_rule e d id r (names ++ more)) same)
