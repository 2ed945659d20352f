pub mod Cookbook
pub mod Files
