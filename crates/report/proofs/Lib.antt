-- The modules of `proofs/` that belong to no one function.
pub mod PutLaws
pub mod Figures
pub mod PairLaws
pub mod LineLaws
pub mod TraceLaws
pub mod Lending
pub mod Inside
pub mod Longest
pub mod WholeLaws
pub mod Fitting
pub mod Ways
pub mod SummaryLaws
pub mod MarkLaws
pub mod Choosing
pub mod Examples
pub mod Decimal
