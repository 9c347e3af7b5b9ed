-- What the numbers of formulas stand for where each is made of earlier ones.
use Rattle.std.specs.Prelude.{◌≡◌, ℕ, zero, suc, false, List, Option, Some, None, slice_get, length, refl}
use Rattle.model.specs.sites.Sites.{SiteTerm}
use Rattle.laws_specs.specs.Words.{equals}
use Rattle.model_questions.specs.Formulas as M
use Rattle.model_questions.specs.Forms as MF
use Rattle.spec_cases.specs.declared.formulas.WordNode.TheVariants as WN
use Rattle.spec_cases.specs.declared.formulas.IntegerNode.TheVariants as IN
use Rattle.spec_cases.specs.declared.formulas.FactNode.TheVariants as FN
use Rattle.spec_cases.specs.declared.formulas.Node.{Node}
use Rattle.spec_cases.specs.declared.formulas.Node.TheVariants as N
use Rattle.spec_cases.specs.Namings.{Naming, layer_of_place, layer_of_word, layer_of_integer, layer_of_fact, forms_of, is_plain_word, is_plain_integer, is_plain_fact}

-- what stands for a number that has no formula
abbrev pub no_word : M.Word
no_word = M.word_by equals M.no_operand

abbrev pub no_integer : M.Integer
no_integer = M.integer_by equals M.no_operand

abbrev pub no_fact : M.Fact
no_fact = M.fact_by equals M.no_operand

-- by what others stand for
abbrev pub place_by : Naming → Option Node → M.Place
place_by v (Some (N.Place x)) = layer_of_place v x
place_by v _ = M.argument_at 0

abbrev pub word_by : Naming → Option Node → M.Word
word_by v (Some (N.Word x)) = layer_of_word v x
word_by v _ = no_word

abbrev pub integer_by : Naming → Option Node → M.Integer
integer_by v (Some (N.Integer x)) = layer_of_integer v x
integer_by v _ = no_integer

abbrev pub fact_by : Naming → Option Node → M.Fact
fact_by v (Some (N.Fact x)) = layer_of_fact v x
fact_by v _ = no_fact

abbrev pub fields_by : Naming → Option Node → MF.Forms
fields_by v (Some (N.Fields fs)) = forms_of v fs.items
fields_by v _ = MF.no_form

pub made_word_by : (v : Naming) (o : Option Node) → is_plain_word (word_by v o) ≡ false
made_word_by v None = refl
made_word_by v (Some (N.Place x)) = refl
made_word_by v (Some (N.Word (WN.By o of))) = refl
made_word_by v (Some (N.Word (WN.Answered f of))) = refl
made_word_by v (Some (N.Word (WN.Either f a b))) = refl
made_word_by v (Some (N.Integer x)) = refl
made_word_by v (Some (N.Fact x)) = refl
made_word_by v (Some (N.Fields fs)) = refl

pub made_integer_by : (v : Naming) (o : Option Node) → is_plain_integer (integer_by v o) ≡ false
made_integer_by v None = refl
made_integer_by v (Some (N.Place x)) = refl
made_integer_by v (Some (N.Word x)) = refl
made_integer_by v (Some (N.Integer (IN.By o of))) = refl
made_integer_by v (Some (N.Integer (IN.Answered f of))) = refl
made_integer_by v (Some (N.Integer (IN.Either f a b))) = refl
made_integer_by v (Some (N.Fact x)) = refl
made_integer_by v (Some (N.Fields fs)) = refl

pub made_fact_by : (v : Naming) (o : Option Node) → is_plain_fact (fact_by v o) ≡ false
made_fact_by v None = refl
made_fact_by v (Some (N.Place x)) = refl
made_fact_by v (Some (N.Word x)) = refl
made_fact_by v (Some (N.Integer x)) = refl
made_fact_by v (Some (N.Fact (FN.By o of))) = refl
made_fact_by v (Some (N.Fact (FN.Answered f of))) = refl
made_fact_by v (Some (N.Fact (FN.Both a b))) = refl
made_fact_by v (Some (N.Fact (FN.One a b))) = refl
made_fact_by v (Some (N.Fact (FN.No a))) = refl
made_fact_by v (Some (N.Fact (FN.Same a b))) = refl
made_fact_by v (Some (N.Fields fs)) = refl

module _ (site : ℕ → SiteTerm) (nodes : List Node) where
  -- so many layers deep
  abbrev pub naming_at : ℕ → Naming
  naming_at zero = record {
    site = site;
    place = λ n. M.argument_at 0;
    word = λ n. no_word;
    integer = λ n. no_integer;
    fact = λ n. no_fact;
    fields = λ n. MF.no_form;
    made_words = λ n. refl;
    made_integers = λ n. refl;
    made_facts = λ n. refl;
  }
  naming_at (suc k) = record {
    site = site;
    place = λ n. place_by (naming_at k) (slice_get nodes n);
    word = λ n. word_by (naming_at k) (slice_get nodes n);
    integer = λ n. integer_by (naming_at k) (slice_get nodes n);
    fact = λ n. fact_by (naming_at k) (slice_get nodes n);
    fields = λ n. fields_by (naming_at k) (slice_get nodes n);
    made_words = λ n. made_word_by (naming_at k) (slice_get nodes n);
    made_integers = λ n. made_integer_by (naming_at k) (slice_get nodes n);
    made_facts = λ n. made_fact_by (naming_at k) (slice_get nodes n);
  }

  -- no formula is deeper than there are formulas
  abbrev pub naming_of : Naming
  naming_of = naming_at (suc (length nodes))
