-- What forms stand for where each place has a value, the model that such values give, and what is told of them.
use Rattle.std.proofs.Common.{◌≡◌, ◌<◌, ◌^◌, ℕ, ℤ, zero, suc, true, if◌then◌else◌, List, [], ◌∷◌, ◌++◌, Some, slice_get, refl, ap, ◌∙◌, arith, ltb-true}
use Rattle.std.proofs.lemmas.Grind.{common_steps}
use Rattle.std.specs.Bool.{◌==◌}
use Rattle.std.proofs.lemmas.Bool.{eqb-true}
use Rattle.model.specs.lists.Tables.{TypeEntry}
use Rattle.laws_specs.specs.Words.{Denoted, a_truth, an_integer, a_word, variant_of, struct_of, DenotedList, no_denoted, denoted_and, denoted_list, is_formed}
use Rattle.laws_specs.specs.Specs.{Specs, Unknowns}
use Rattle.laws_specs.specs.Conditions.{is_of_type}
use Rattle.model_questions.specs.Formulas.{Place, variant_field_at, struct_field_at, Model, integer_in, truth_in, number_of, integer_of, is_so}
use Rattle.model_questions.specs.Forms.{Form, a_fact, an_integer_by, a_word_by, variant_by, struct_by, any_of, some_at, Forms, no_form, form_and, form_list, form_of, forms_of}
use Rattle.model_questions.specs.Evaluated.{Known, found}

abbrev pub number_if : Denoted → ℕ → ℕ
number_if (a_word w n) width = if w == width then n else 0
number_if _ width = 0

abbrev pub width_in : Denoted → ℕ
width_in (a_word w n) = w
width_in _ = 0

abbrev pub kind_in : Denoted → ℕ
kind_in (variant_of ty i xs) = suc i
kind_in _ = 0

-- the model that values give: each constant of a place at the width of the value there is its number
abbrev pub model_of : (Place → Denoted) → Unknowns → Model
model_of vs g = record {
  words = λ at width. number_if (vs at) width;
  widths = λ at. width_in (vs at);
  kinds = λ at. kind_in (vs at);
  integers = λ at. integer_in (Some (vs at));
  truths = λ at. truth_in (Some (vs at));
  functions = g;
}

-- fields stand where their variant or struct does
pub record IsCoherent (vs : Place → Denoted) : Type 0 where
  pub variants : (at : Place) (ty i : ℕ) (xs : DenotedList) (k : ℕ) (y : Denoted) → vs at ≡ variant_of ty i xs → slice_get (denoted_list xs) k ≡ Some y → vs (variant_field_at at ty i k) ≡ y
  pub structs : (at : Place) (ty : ℕ) (xs : DenotedList) (k : ℕ) (y : Denoted) → vs at ≡ struct_of ty xs → slice_get (denoted_list xs) k ≡ Some y → vs (struct_field_at at ty k) ≡ y

pub record AreKnown (m : Model) (k : Known) : Type 0 where
  pub widths : (at : Place) (w : ℕ) → found k.widths at ≡ Some w → m.widths at ≡ w
  pub integers : (at : Place) (z : ℤ) → found k.integers at ≡ Some z → m.integers at ≡ z
  pub kinds : (at : Place) (i : ℕ) → found k.kinds at ≡ Some i → m.kinds at ≡ suc i

module _ (vs : Place → Denoted) (g : Unknowns) where
  abbrev mutual
    pub stands : Form → Denoted
    stands (a_fact f) = a_truth (is_so (model_of vs g) f)
    stands (an_integer_by z) = an_integer (integer_of (model_of vs g) z)
    stands (a_word_by width t) = a_word width (number_of (model_of vs g) t)
    stands (variant_by ty i fs) = variant_of ty i (stand_each fs)
    stands (struct_by ty fs) = struct_of ty (stand_each fs)
    stands (any_of ty at) = vs at
    stands (some_at at) = vs at

    pub stand_each : Forms → DenotedList
    stand_each no_form = no_denoted
    stand_each (form_and f rest) = denoted_and (stands f) (stand_each rest)

  mutual
    pub written_stands : (x : Denoted) → stands (form_of x) ≡ x
    written_stands (variant_of ty i xs) = ap (variant_of ty i) (written_stand xs)
    written_stands (struct_of ty xs) = ap (struct_of ty) (written_stand xs)
    written_stands x = refl

    pub written_stand : (xs : DenotedList) → stand_each (forms_of xs) ≡ xs
    written_stand no_denoted = refl
    written_stand (denoted_and x xs) = ap (λ y. denoted_and y (stand_each (forms_of xs))) (written_stands x) ∙ ap (denoted_and x) (written_stand xs)

-- a place whose type is known has a value of that type
module _ (types : List TypeEntry) (specs : Specs) (vs : Place → Denoted) where
  abbrev mutual
    pub Fits : Form → Type 0
    Fits (any_of ty at) = is_of_type types specs ty (vs at) ≡ true
    Fits (variant_by ty i fs) = AllFit fs
    Fits (struct_by ty fs) = AllFit fs
    Fits _ = Unit {0}

    pub AllFit : Forms → Type 0
    AllFit no_form = Unit {0}
    AllFit (form_and f rest) = Fits f × AllFit rest

  mutual
    pub written_fits : (x : Denoted) → Fits (form_of x)
    written_fits (variant_of ty i xs) = written_fit xs
    written_fits (struct_of ty xs) = written_fit xs
    written_fits x = tt

    pub written_fit : (xs : DenotedList) → AllFit (forms_of xs)
    written_fit no_denoted = tt
    written_fit (denoted_and x xs) = (written_fits x, written_fit xs)

-- lists of forms
module _ (types : List TypeEntry) (specs : Specs) (vs : Place → Denoted) (g : Unknowns) where
  abbrev pub AreDescribed : List Form → List Denoted → Type 0
  AreDescribed [] [] = Unit {0}
  AreDescribed (f ∷ fs) (x ∷ xs) = (stands vs g f ≡ x) × Fits types specs vs f × AreDescribed fs xs
  AreDescribed _ _ = ⊥

  pub forms_described : (fs : Forms) → AllFit types specs vs fs → AreDescribed (form_list fs) (denoted_list (stand_each vs g fs))
  forms_described no_form a = tt
  forms_described (form_and f rest) a = (refl, a.0, forms_described rest a.1)

  pub more_described : (fs hs : List Form) (xs ys : List Denoted) → AreDescribed fs xs → AreDescribed hs ys → AreDescribed (fs ++ hs) (xs ++ ys)
  more_described (f ∷ fs) hs (x ∷ xs) ys a b = (a.0, a.1, more_described fs hs xs ys a.2 b)
  more_described fs hs xs ys a b = grind (arith, common_steps)

-- values are formed, so words of the model lie below two to their widths
pub power_positive : (n : ℕ) → 0 < 2 ^ n
power_positive zero = omega arith
power_positive (suc n) = let h : 0 < 2 ^ n = power_positive n in omega arith

pub number_formed : (x : Denoted) (width : ℕ) → is_formed x ≡ true → number_if x width < 2 ^ width
number_formed x width h = grind (arith, common_steps, eqb-true, ltb-true, power_positive)
