-- What reading the value of a type does, and reading the variants of an enum.
use Rattle.std.specs.Prelude.{◌≡◌, ℕ, Bool, true, false, List, [], ◌∷◌, ◌++◌, ◌⊎◌, Option, length, Some, None, All, map, is_some, slice_get}
use Rattle.std.specs.List.{flat_map, enumerate_from}
use Rattle.model.specs.lists.Syntax.{Position, VariantTree, TypeTree, TypeValueTree, Definition, type_definition}
use Rattle.model.specs.lists.Names.{number, has_name, with_names, IsDistinct}
use Rattle.model.specs.rules.Outcome.{then_option}
use Rattle.model.specs.lists.TypeTable.{place_from, variant_names, names_inside, variant_entry, type_entry}
use Rattle.core_syntax.specs.declared.syntax.Error.{Error}
use Rattle.core_syntax.specs.NotedErrors.{NotesMore}
use Rattle.core_syntax.specs.Positions.{variant_positions, type_positions}
use Rattle.core_syntax.specs.Stable.{Members, contains}
use Rattle.core_types.specs.declared.ids.Sym.{Sym}
use Rattle.core_types.specs.declared.type_env.TypeEnv.{TypeEnv}
use Rattle.core_types.specs.declared.types.Variant.{Variant}
use Rattle.core_types.specs.Envs.{names_of, same_symbol, symbol}
use Rattle.core_types.specs.Reading.{MeetsNames, EndsAt, AreRightFields, IsRightType}
use Rattle.core_types.specs.ToldErrors.{Notes}
use Rattle.core_types.specs.TypeViews.{variant_view, type_views}

-- a type of which another value is read
abbrev pub of_value : TypeTree → TypeValueTree → TypeTree
of_value t value = record { name = t.name; is_extern = t.is_extern; is_nodebug = t.is_nodebug; value = value; at = t.at }

-- an error is noted exactly if this holds
abbrev pub ReportsIf : Bool → List Error → List Error → Type 0
ReportsIf true old new = NotesMore old new
ReportsIf false old new = new ≡ old

-- one error is noted at a position exactly if this holds
abbrev pub NotesIf : Bool → Position → List Error → List Error → Type 0
NotesIf true at old new = Notes 1 (at ∷ []) old new
NotesIf false at old new = new ≡ old

-- a name was met, and this is its number
pub record IsNumberOf (n : ℕ) (name : List ℕ) (names : List (List ℕ)) : Type 0 where
  pub met : has_name names name ≡ true
  pub numbered : n ≡ number names name

-- the set has the numbers of these names, which were all met
pub record HasSeen (names : List (List ℕ)) (seen : Members Sym) (earlier : List (List ℕ)) : Type 0 where
  pub numbers : (k : ℕ) → contains same_symbol seen (symbol k) ≡ is_some (then_option (slice_get names k) (λ x. place_from 0 x earlier))
  pub known : (x : List ℕ) → has_name names x ≡ false → place_from 0 x earlier ≡ None

-- a variant, after those of these names, becomes its entry
pub record VariantRead (defs : List Definition) (ty : List ℕ) (id : ℕ) (v : VariantTree) (earlier : List (List ℕ)) (read : Variant) (old new : TypeEnv) (seen : Members Sym) : Type 0 where
  pub fresh : place_from 0 v.name.text earlier ≡ None
  pub fields : AreRightFields defs v.fields
  pub meets : MeetsNames (variant_names ty v) old new
  pub entry : variant_view read ≡ variant_entry defs (names_of new) ty id v
  pub sees : HasSeen (names_of new) seen (earlier ++ v.name.text ∷ [])

-- a variant becomes its entry, or its name is an earlier one's, or its fields aren't right
abbrev pub ReadsVariant : List Definition → List ℕ → ℕ → VariantTree → List (List ℕ) → Option Variant → TypeEnv → List Error → TypeEnv → List Error → Members Sym → Type 0
ReadsVariant defs ty id v earlier (Some read) old es new es' seen = (es' ≡ es) × VariantRead defs ty id v earlier read old new seen
ReadsVariant defs ty id v earlier None old es new es' seen = EndsAt (variant_positions v) old es new es' × (place_from 0 v.name.text earlier ≡ None → AreRightFields defs v.fields → ⊥)

-- these variants become their entries
pub record VariantsRead (defs : List Definition) (ty : List ℕ) (vs : List VariantTree) (read : List Variant) (old new : TypeEnv) : Type 0 where
  pub distinct : IsDistinct (map (λ v. v.name.text) vs)
  pub fields : All (AreRightFields defs) (map (λ v. v.fields) vs)
  pub meets : MeetsNames (flat_map (variant_names ty) vs) old new
  pub entries : map variant_view read ≡ map (λ p. variant_entry defs (names_of new) ty p.0 p.1) (enumerate_from 0 vs)

-- the variants of an enum become their entries, or two have one name, or the fields of one aren't right
abbrev pub ReadsVariants : List Definition → List ℕ → List VariantTree → Option (List Variant) → TypeEnv → List Error → TypeEnv → List Error → Type 0
ReadsVariants defs ty vs (Some read) old es new es' = (es' ≡ es) × VariantsRead defs ty vs read old new
ReadsVariants defs ty vs None old es new es' = EndsAt (flat_map variant_positions vs) old es new es' × (IsDistinct (map (λ v. v.name.text) vs) → All (AreRightFields defs) (map (λ v. v.fields) vs) → ⊥)

-- a type becomes the next entry
pub record FillsType (defs : List Definition) (t : TypeTree) (old new : TypeEnv) : Type 0 where
  pub right : IsRightType defs t
  pub names : names_of new ≡ with_names (names_of old) (names_inside t.name.text t.value)
  pub type_map : new.type_map ≡ old.type_map
  pub const_types : new.const_types ≡ old.const_types
  pub errors : new.errors ≡ old.errors
  pub types : type_views new.types.items ≡ type_views old.types.items ++ type_entry defs (names_of new) (length old.types.items) t ∷ []

-- a definition of a type becomes the next entry, or its type isn't right; another one changes nothing
abbrev pub FillsDefinition : List Definition → Definition → TypeEnv → List Error → TypeEnv → List Error → Type 0
FillsDefinition defs (type_definition t) old es new es' = ((es' ≡ es) × FillsType defs t old new) ⊎ (EndsAt (type_positions t) old es new es' × (IsRightType defs t → ⊥))
FillsDefinition defs _ old es new es' = (es' ≡ es) × (new ≡ old)
