-- The declared types of `rules` under one roof, as the laws name them. Assumes nothing.
pub use Rattle.rules.specs.declared.Width.{Width}
pub use Rattle.rules.specs.declared.Width.TheVariants.{W8, W64}
pub use Rattle.rules.specs.declared.Order.{Order}
pub use Rattle.rules.specs.declared.Order.TheVariants.{Lsb0, Msb0}
pub use Rattle.rules.specs.declared.Index.{Index}
pub use Rattle.rules.specs.declared.Position.{Position}
pub use Rattle.rules.specs.declared.Selector.{Selector}
pub use Rattle.rules.specs.declared.Mask.{Mask}
pub use Rattle.rules.specs.declared.Span.{Span}
pub use Rattle.rules.specs.declared.Halves.{Halves}
pub use Rattle.rules.specs.declared.Significance.{Significance}
pub use Rattle.rules.specs.declared.Significance.TheVariants.{Le, Be}
pub use Rattle.rules.specs.declared.Sign.{Sign}
pub use Rattle.rules.specs.declared.Sign.TheVariants.{Unsigned, Signed}
pub use Rattle.rules.specs.declared.Number.{Number}
pub use Rattle.rules.specs.declared.Number.TheVariants.{Up, Down}
pub use Rattle.rules.specs.declared.Operation.{Operation}
pub use Rattle.rules.specs.declared.Operation.TheVariants.{And, Or, Xor}
pub use Rattle.rules.specs.declared.Refusal.{Refusal}
pub use Rattle.rules.specs.declared.Refusal.TheVariants.{TooManyWords, IndexTooLarge, OutOfBounds, NoSuchK, FieldLength}
pub use Rattle.rules.specs.declared.Refusal.TheVariants.{OrdersDiffer, LengthsDiffer, NotAnInteger, DoesNotFit, NotBelow}
pub use Rattle.std.specs.Prelude.{Result, Ok, Err}
pub use Rattle.rules.specs.Types.{Verdict}
