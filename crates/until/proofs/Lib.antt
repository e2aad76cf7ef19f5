-- Laws behind the proofs of `until`.
pub mod HeldLaw
pub mod LayLaw
pub mod RunLaw
pub mod ReadLaw
pub mod GapLaw
pub mod PointLaw
pub mod RestrictLaw
pub mod BothLaw
pub mod FromLaw
pub mod SummedLaw
pub mod UntilLaw
pub mod EarlierLaw
