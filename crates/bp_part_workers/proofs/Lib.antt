mod Lining
mod Naming
