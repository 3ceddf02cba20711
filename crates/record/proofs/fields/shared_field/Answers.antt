-- `record::fields::shared_field` meets its contract.
-- Assumes nothing.
use mathlib.Core.Path.{◌≡◌, refl, sym, ◌∙◌}
use mathlib.Core.Bool.{Bool, false}
use Rattle.record.specs.declared.fields.Field.{Field}
use Rattle.record.specs.declared.fields.Field.TheVariants.{Nowhere as nowhere, Wide as wide, Short as short, Early as early}
use Rattle.record.specs.Same.{field_of, shared}
use Rattle.record.proofs.fields.shared_field.Goals as goal

-- what holds of the fields that the arms were told holds of the names'
told : {f own k g other l x : Field} {b d : Bool} → f ≡ own → f ≡ k → g ≡ other → g ≡ l → b ≡ d → x ≡ shared k l d → x ≡ shared own other b
told p q r s e h = h ∙ (λ j. shared ((sym q ∙ p) j) ((sym s ∙ r) j) (sym e j))

not_others : (g : Field) → short ≡ shared short g false
not_others nowhere = refl
not_others wide = refl
not_others short = refl
not_others early = refl

pub returns-in-Nowhere : goal.returns-in-Nowhere
returns-in-Nowhere c = told c.field_of-field.ensures c.in-Nowhere.is refl refl refl c.in-Nowhere.is

pub returns-in-Wide : goal.returns-in-Wide
returns-in-Wide c = told c.field_of-field.ensures c.in-Wide.is refl refl refl c.in-Wide.is

pub returns-in-Early : goal.returns-in-Early
returns-in-Early c = told c.field_of-field.ensures c.in-Early.is refl refl refl c.in-Early.is

-- the other's field is looked at where an operand asks for dispabs
pub returns-in-Nowhere-beside : goal.returns-in-Nowhere-beside
returns-in-Nowhere-beside c = told c.field_of-field.ensures c.in-Short.is c.field_of-beside.ensures c.in-Nowhere-beside.is refl c.in-Short.is

pub returns-in-Wide-beside : goal.returns-in-Wide-beside
returns-in-Wide-beside c = told c.field_of-field.ensures c.in-Short.is c.field_of-beside.ensures c.in-Wide-beside.is refl c.in-Short.is

pub returns-in-Early-beside : goal.returns-in-Early-beside
returns-in-Early-beside c = told c.field_of-field.ensures c.in-Short.is c.field_of-beside.ensures c.in-Early-beside.is refl c.in-Short.is

pub returns-in-Short-beside : goal.returns-in-Short-beside
returns-in-Short-beside c = told c.field_of-field.ensures c.in-Short.is c.field_of-beside.ensures c.in-Short-beside.is c.if-others.true refl

pub returns-else-others : goal.returns-else-others
returns-else-others c = told c.field_of-field.ensures c.in-Short.is refl refl c.if-others.false (c.in-Short.is ∙ not_others (field_of c.args.other))
