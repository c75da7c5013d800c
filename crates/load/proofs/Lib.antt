mod Filling
mod Checking
