-- The pod's state as bytes and its answers as numbers (Pods), and the commands to it as numbers (Orders).
pub mod Pods
pub mod Orders
