-- The frame's own definitions: its contracts cite the model's besides.
pub mod Fit31
