pub mod BearerLaws
pub mod KindFinds
pub mod KindLaws
pub mod LengthLaws
pub mod TargetLaws
pub mod WindowLaws
