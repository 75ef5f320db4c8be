-- Laws that the proofs of several functions use.
mod TokenLaws
mod EmitLaws
mod ScanLaws
mod DepthLaws
mod ReaderLaws
mod LineLaws
