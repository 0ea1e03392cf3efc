-- What a reader has to believe of the exported functions: what `tns_encode`, `tns_decode_save`, `tns_decode_restart`, the calls on a block and its
-- rescue leave. How a verdict is given in numbers is said in `answer_call` and `answer_block`.
pub mod Encoding
pub mod AtLine
pub mod Blocks
pub mod Rescue
