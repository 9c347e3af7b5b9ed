-- A term's clone says what the term says.
use Rattle.std.proofs.Common.{◌≡◌, Option, option_map, arith}
use Rattle.std.proofs.lemmas.Grind.{common_steps}
use Rattle.core_terms.specs.declared.term.ConstructorKind.{ConstructorKind}
use Rattle.core_terms.specs.declared.term.ExtractorKind.{ExtractorKind}
use Rattle.core_terms.specs.declared.term.TermFlags.{TermFlags}
use Rattle.core_terms.specs.declared.term.TermKind.{TermKind}
use Rattle.core_terms.specs.declared.term.TermKind.TheVariants.{Decl}
use Rattle.core_terms.specs.declared.term.Term.{Term}
use Rattle.core_terms.specs.contracts.term.ConstructorKindClone.TheImpl as C
use Rattle.core_terms.specs.contracts.term.ExtractorKindClone.TheImpl as E
use Rattle.core_terms.specs.contracts.term.TermKindClone.TheImpl as K
use Rattle.core_terms.specs.contracts.term.TermClone.TheImpl as T
use Rattle.core_terms.specs.TermViews.{constructor_view, extractor_view, kind_view, term_view}
use Rattle.core_typed.proofs.Copies.{clone_says}

constructor_copied : (k l : ConstructorKind) → C.is_clone-value.it k l → constructor_view l ≡ constructor_view k
constructor_copied k l h = grind arith

extractor_copied : (k l : ExtractorKind) → E.is_clone-value.it k l → extractor_view l ≡ extractor_view k
extractor_copied k l h = grind arith

module _ (f g : TermFlags) where
  made_copied : (c d : Option ConstructorKind) (x y : Option ExtractorKind) → K.is_clone-value.it (Decl f c x) (Decl g d y) → option_map constructor_view d ≡ option_map constructor_view c
  made_copied c d x y h = grind (arith, constructor_copied)

  taken_copied : (c d : Option ConstructorKind) (x y : Option ExtractorKind) → K.is_clone-value.it (Decl f c x) (Decl g d y) → option_map extractor_view y ≡ option_map extractor_view x
  taken_copied c d x y h = grind (arith, extractor_copied)

kind_copied : (k l : TermKind) → K.is_clone-value.it k l → kind_view l ≡ kind_view k
kind_copied k l h = grind (arith, made_copied, taken_copied)

pub term_copied : (t u : Term) → T.is_clone-value.it t u → term_view u ≡ term_view t
term_copied t u h = grind (arith, common_steps, clone_says, kind_copied)
