pub mod PairwiseLaws
pub mod AloneLaws
pub mod CaseLaws
pub mod ItemLaws
pub mod MapLaws
pub mod NameLaws
pub mod OperatorLaws
pub mod LossLaws
