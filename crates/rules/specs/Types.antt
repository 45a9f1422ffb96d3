-- The declared types of src/lib.rt under one roof, their names and cases, and the type of what a check answers. Cited wherever a type is named. Assumes
-- nothing.
pub use Rattle.rules.specs.declared.Width.{Width}
pub use Rattle.rules.specs.declared.Width.TheVariants.{W8, W64}
pub use Rattle.rules.specs.declared.Order.{Order}
pub use Rattle.rules.specs.declared.Order.TheVariants.{Lsb0, Msb0}
pub use Rattle.rules.specs.declared.Index.{Index}
pub use Rattle.rules.specs.declared.Position.{Position}
pub use Rattle.rules.specs.declared.Selector.{Selector}
pub use Rattle.rules.specs.declared.Mask.{Mask}
pub use Rattle.rules.specs.declared.Span.{Span}
pub use Rattle.rules.specs.declared.Halves.{Halves}
pub use Rattle.rules.specs.declared.Significance.{Significance}
pub use Rattle.rules.specs.declared.Significance.TheVariants.{Le, Be}
pub use Rattle.rules.specs.declared.Sign.{Sign}
pub use Rattle.rules.specs.declared.Sign.TheVariants.{Unsigned, Signed}
pub use Rattle.rules.specs.declared.Number.{Number}
pub use Rattle.rules.specs.declared.Number.TheVariants.{Up, Down}
pub use Rattle.rules.specs.declared.Operation.{Operation}
pub use Rattle.rules.specs.declared.Operation.TheVariants.{And, Or, Xor}
pub use Rattle.rules.specs.declared.Refusal.{Refusal}
pub use Rattle.rules.specs.declared.Refusal.TheVariants.{TooManyWords, IndexTooLarge, OutOfBounds, NoSuchK, FieldLength}
pub use Rattle.rules.specs.declared.Refusal.TheVariants.{OrdersDiffer, LengthsDiffer, NotAnInteger, DoesNotFit, NotBelow}
pub use Rattle.std.specs.Prelude.{Result, Ok, Err}

-- what a check answers, and a table says: that a request is accepted, or why it is refused
abbrev pub Verdict : Type 0
Verdict = Result (Unit {0}) Refusal
